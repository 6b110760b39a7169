-- The instance of a text, or the first line that is refused and why.
use Rattle.std.specs.Prelude.{ℕ, List, [], Result}
use Rattle.fapp_model.specs.declared.instance.Instance.{Instance}
use Rattle.fapp_text.specs.declared.failure.LineFault.{LineFault}
use Rattle.fapp_text.specs.Lines.{lines}
use Rattle.fapp_text.specs.Reading.{◌>>=◌, unless}
use Rattle.record_reader.specs.declared.cause.Cause.{Cause}
use Rattle.record_reader.specs.declared.entry.Pending.{Pending}
use Rattle.record_reader.specs.Contents.{Contents, Domains, no_contents}
use Rattle.record_reader.specs.Instances.{frequencies, paths_of, instance_of}
use Rattle.record_reader.specs.Links.{first_link_refusal}
use Rattle.record_reader.specs.LineReading.{read_lines}

-- the instance of links over domains, where none of them is refused
abbrev pub instance_of_links : Domains → List Pending → Result Instance (LineFault Cause)
instance_of_links domains links =
    unless (first_link_refusal domains (paths_of links) [] links) (instance_of domains links)

abbrev pub instance_of_contents : Contents → Result Instance (LineFault Cause)
instance_of_contents contents = instance_of_links (frequencies contents.domains) contents.links

abbrev pub instance_of_lines : List (List ℕ) → Result Instance (LineFault Cause)
instance_of_lines texts = read_lines no_contents 1 texts >>= instance_of_contents

abbrev pub instance_of_text : List ℕ → Result Instance (LineFault Cause)
instance_of_text text = instance_of_lines (lines text)
