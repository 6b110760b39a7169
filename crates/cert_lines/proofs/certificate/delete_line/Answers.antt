use Rattle.std.proofs.Common.{refl}
use Rattle.cert_lines.specs.FieldsLeft.{fields_left}
use Rattle.cert_lines.proofs.LineLaws.{delete_read}
use Rattle.cert_lines.proofs.certificate.delete_line.Goals as goal

pub returns : goal.returns
returns c =
    delete_read (fields_left c.args.fields) (fields_left c.in_ok-cites.rest) _ c.in_ok-cites.cites c.in_ok-cites.ensures c.in_ok-ended.ensures refl c.new.ensures refl
