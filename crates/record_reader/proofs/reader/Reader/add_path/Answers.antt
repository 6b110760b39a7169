use Rattle.std.proofs.Common.{Some, ◌∙◌, subst, nat_cmp, arith, refl}
use Rattle.std.specs.BTreeMap.{Updates}
use Rattle.fapp_model.specs.declared.limits.TheConstants.{MAX_PATHS}
use Rattle.record_reader.proofs.Additions.{path_added, absent_from, one_longer, has_room}
use Rattle.record_reader.proofs.reader.Reader.add_path.Goals as goal

pub returns : goal.returns
returns c = λ contents held.
    let put = c.in_ok-insert.ensures in
    let none = absent_from _ c.contains_key.result c.contains_key.ensures c.if-contains_key.false in
    let room = has_room MAX_PATHS c.len-place.result c.is_full.result c.is_full.ensures c.if-is_full.false in
    path_added c.args.self.now _ contents c.args.entry c.args.line held none
    (omega (arith, c.len-place.ensures.len, room))
    (subst (λ n. Updates nat_cmp c.args.self.now.positions c.insert.new.self c.args.entry.number (Some n)) c.len-place.ensures.len put.updates)
    (one_longer _ _ _ (put.old ∙ none) put.len)
    c.in_ok-push.ensures.ok refl
