-- The instance of a text is valid.
use Rattle.std.proofs.Common.{◌≡◌, List, [], Result, Ok, Err, sym, ap, ◌∙◌, subst}
use Rattle.std.specs.Prelude.{IfOk}
use Rattle.std.proofs.Math.Path.{fun_ext}
use Rattle.fapp_model.specs.declared.instance.Instance.{Instance}
use Rattle.fapp_model.specs.Instances.{IsInstance}
use Rattle.fapp_text.specs.declared.failure.Failure.{Failure}
use Rattle.fapp_text.specs.declared.failure.LineFault.{LineFault}
use Rattle.fapp_text.specs.Reading.{Gives}
use Rattle.fapp_text.proofs.ReadingSteps.{unless_ok}
use Rattle.record_reader.specs.declared.cause.Cause.{Cause}
use Rattle.record_reader.specs.declared.entry.Pending.{Pending}
use Rattle.record_reader.specs.declared.reader.Reader.{Reader}
use Rattle.record_reader.specs.Contents.{Contents, Domains}
use Rattle.record_reader.specs.Instances.{frequencies, paths_of, instance_of}
use Rattle.record_reader.specs.Links.{first_link_refusal}
use Rattle.record_reader.specs.Texts.{instance_of_links, instance_of_contents}
use Rattle.record_reader.specs.Readers.{ReaderHolds, HasPositions, domains_of}
use Rattle.record_reader.specs.Validity.{AreDomains, ArePendings, IsContents}
use Rattle.record_reader.proofs.ValidInstances.{instance_valid}

pub links_valid : (domains : Domains) (links : List Pending) (instance : Instance) → AreDomains domains → ArePendings links → instance_of_links domains links ≡ Ok instance → IsInstance instance
links_valid domains links instance are valid h =
    let both = unless_ok (first_link_refusal domains (paths_of links) [] links) (instance_of domains links) instance h in
    subst IsInstance both.1 (instance_valid domains links are valid both.0)

pub valid_instance : (domains : Domains) (links : List Pending) (r : Result Instance (Failure (LineFault Cause))) → AreDomains domains → ArePendings links
    → Gives (λ instance. instance) r (instance_of_links domains links) → IfOk r IsInstance
valid_instance domains links (Ok instance) are valid h = links_valid domains links instance are valid h
valid_instance domains links (Err failure) are valid h = tt

-- ---- what a reader holds

domains_same : (reader : Reader) (contents : Contents) → ReaderHolds reader contents → domains_of reader ≡ frequencies contents.domains
domains_same reader contents held = fun_ext held.domains

pub domains_held : (reader : Reader) (contents : Contents) → ReaderHolds reader contents → IsContents contents → AreDomains (domains_of reader)
domains_held reader contents held valid = subst AreDomains (sym (domains_same reader contents held)) valid.domains

pub links_held : (reader : Reader) (contents : Contents) → ReaderHolds reader contents → IsContents contents → ArePendings reader.links
links_held reader contents held valid = subst ArePendings (sym held.links) valid.links

pub positions_held : (reader : Reader) (contents : Contents) → ReaderHolds reader contents → HasPositions reader.positions (paths_of reader.links)
positions_held reader contents held = subst (λ links. HasPositions reader.positions (paths_of links)) (sym held.links) held.positions

pub instance_held : (reader : Reader) (contents : Contents) → ReaderHolds reader contents → instance_of_links (domains_of reader) reader.links ≡ instance_of_contents contents
instance_held reader contents held = ap (λ domains. instance_of_links domains reader.links) (domains_same reader contents held) ∙ ap (instance_of_links (frequencies contents.domains)) held.links
