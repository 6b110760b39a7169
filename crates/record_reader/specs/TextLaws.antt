-- Laws of texts and their instances.
use Rattle.std.specs.Prelude.{◌≡◌, ◌≢◌, ℕ, ◌-◌, ◌&&◌, ◌==◌, List, [], ◌∷◌, ◌++◌, Ok, Err, length, slice_index}
use Rattle.std.specs.List.{list_any}
use Rattle.std.specs.List.Sorted.{IsStrictlyIncreasing}
use Rattle.fapp_model.specs.declared.instance.Instance.{Instance}
use Rattle.fapp_model.specs.Instances.{IsInstance}
use Rattle.fapp_text.specs.declared.failure.LineFault.{LineFault}
use Rattle.fapp_text.specs.Lines.{line_feed}
use Rattle.record_reader.specs.declared.cause.Cause.{Cause}
use Rattle.record_reader.specs.declared.entry.DomainEntry.{DomainEntry}
use Rattle.record_reader.specs.Contents.{Contents, no_contents}
use Rattle.record_reader.specs.Fields.{carriage_return}
use Rattle.record_reader.specs.Instances.{frequencies}
use Rattle.record_reader.specs.Texts.{instance_of_contents, instance_of_lines, instance_of_text}
use Rattle.record_reader.specs.LineReading.{read_lines}

-- a text that is not refused has one instance
abbrev pub OneInstance : Type 0
OneInstance = (text : List ℕ) (one other : Instance)
    → instance_of_text text ≡ Ok one → instance_of_text text ≡ Ok other → one ≡ other

-- which is valid
abbrev pub ValidInstance : Type 0
ValidInstance =
    (text : List ℕ) (instance : Instance) → instance_of_text text ≡ Ok instance →
    IsInstance instance

-- a line that is refused for itself or for those before it is refused whatever follows it
abbrev pub FirstRefusal : Type 0
FirstRefusal = (texts more : List (List ℕ)) (bad : LineFault Cause)
    → read_lines no_contents 1 texts ≡ Err bad → instance_of_lines (texts ++ more) ≡ Err bad

-- where no line is, the contents of all of them decide
abbrev pub LinkRefusal : Type 0
LinkRefusal = (texts : List (List ℕ)) (contents : Contents)
    → read_lines no_contents 1 texts ≡ Ok contents →
    instance_of_lines texts ≡ instance_of_contents contents

-- a line feed more at the end of a text changes nothing
abbrev pub LineFeedMore : Type 0
LineFeedMore = (text : List ℕ) → instance_of_text (text ++ line_feed ∷ []) ≡ instance_of_text text

-- nor does a carriage return at the end of a line that has none there
abbrev pub CarriageReturnMore : Type 0
CarriageReturnMore = (before after : List (List ℕ)) (line : List ℕ)
    → slice_index line (length line - 1) ≢ carriage_return
    → instance_of_lines (before ++ (line ++ carriage_return ∷ []) ∷ after)
    ≡ instance_of_lines (before ++ line ∷ after)

-- the frequencies of a domain ascend
abbrev pub Ascending : Type 0
Ascending =
    (entries : List DomainEntry) (domain : ℕ) → IsStrictlyIncreasing (frequencies entries domain)

-- and are those that its entries give
abbrev pub OwnFrequencies : Type 0
OwnFrequencies = (entries : List DomainEntry) (domain frequency : ℕ) →
    list_any (λ f. f == frequency) (frequencies entries domain)
    ≡ list_any (λ entry. (entry.domain == domain) && (entry.frequency == frequency)) entries
