-- What the parts of a line's judgement rest on.
use Rattle.std.proofs.Common.{◌≡◌, ℕ, ◌≤◌, Bool, List, length, take, get_or, arith, All, cond, Option, Some, None, eqb, Result, Ok, Err, IfOk, refl, ap, sym, subst, ◌∙◌, inl, inr}
use Rattle.std.specs.Option.{option_or}
use Rattle.std.proofs.lemmas.Bool.{cond-true, cond-false, eq-eqb, ne_eqb}
use Rattle.std.proofs.lemmas.List.{length-take}
use Rattle.fapp_model.specs.declared.instance.Instance.{Instance}
use Rattle.fapp_model.specs.declared.literal.Literal.{Literal}
use Rattle.fapp_model.specs.declared.tag.Tag.{Tag}
use Rattle.fapp_model.specs.declared.level.TheConstants.{MAX_LEVELS}
use Rattle.fapp_model.specs.search.Partials.{AreLiterals, IsLiteral}
use Rattle.fapp_model.specs.Tags.{mode_level, triple_from}
use Rattle.cert_lines.specs.declared.answer.Line.{Line}
use Rattle.cert_lines.proofs.Ascending.{few_items}
use Rattle.cert_lines.proofs.Deleting.{plain-deletes, plain-rule}
use Rattle.fapp_model.proofs.TagParts.{TagShape, limited, plain, shape, mode-limited, mode-plain}
use Rattle.cert_lines.specs.declared.reject.RejectCause.{RejectCause}
use Rattle.cert_lines.specs.WellFormed.{IsLineOrDelete, IsLine}
use Rattle.cert_lines.specs.acceptance.Deleted.{deletes}
use Rattle.cert_lines.specs.acceptance.LineFaults.{cite_fault, delete_fault, first_of, line_fault, rule_fault}
use Rattle.accept_laws.proofs.GoodLines.{good-cite}
use Rattle.accept_laws.proofs.Options.{first_of-none}
use Rattle.cert_check.specs.Marked.{AreEarlier}

-- cites without a fault are numbers of earlier lines
pub good-cites : (lines : List Line) (n : ℕ) (t : Tag) (contains : List Literal → Bool) (cites : List ℕ) → n ≤ length lines → first_of (cite_fault (take n lines) t contains) cites ≡ None → AreEarlier n cites
good-cites lines n t contains cites within h = λ k d l.
    let good = good-cite (take n lines) t contains (get_or cites k d) (first_of-none (cite_fault (take n lines) t contains) cites h k d l) in
    let most = simp length-take at good.high in
    (good.low, omega arith)

-- the level of a tag has a distance, or is the last one
pub mode-small : (t : Tag) → mode_level (triple_from t.code) ≤ MAX_LEVELS
mode-small t = by_shape (shape MAX_LEVELS (triple_from t.code) t.of_tag)
  where
    by_shape : TagShape MAX_LEVELS (triple_from t.code) → mode_level (triple_from t.code) ≤ MAX_LEVELS
    by_shape (limited some low high v s) = omega (arith, mode-limited (triple_from t.code) some)
    by_shape (plain none nothing high) = omega (arith, mode-plain (triple_from t.code) none)

-- a line's literals are of the instance, and no more than its paths
pub line-literals : (instance : Instance) (literals : List Literal) → AreLiterals instance literals → All (IsLiteral instance) literals
line-literals instance literals h = h.in_range

pub line-few : (instance : Instance) (literals : List Literal) → AreLiterals instance literals → length literals ≤ length instance.paths
line-few instance literals h = few_items (λ (a : Literal). a.path) (length instance.paths) literals (λ k d l. (h.in_range k d l).path) h.ascending

-- a line by its tag
pub zero-line : (instance : Instance) (earlier : List Line) (line : Line) → line.tag.code ≡ 0 → line_fault instance earlier line ≡ first_of (delete_fault earlier) (deletes line.rule)
unfolding line_fault
zero-line instance earlier line h =
    ap (option_or (first_of (delete_fault earlier) (deletes line.rule))) (cond-true (eqb line.tag.code 0) None (rule_fault instance earlier line.tag line.lits line.rule) (eq-eqb line.tag.code 0 h))
    ∙ or-none (first_of (delete_fault earlier) (deletes line.rule))
  where
    or-none : (o : Option RejectCause) → option_or o None ≡ o
    or-none None = refl
    or-none (Some cause) = refl

pub other-line : (instance : Instance) (earlier : List Line) (line : Line) → IsLine instance line → (line.tag.code ≡ 0 → ⊥) → line_fault instance earlier line ≡ rule_fault instance earlier line.tag line.lits line.rule
unfolding line_fault
other-line instance earlier line formed h =
    ap (λ (numbers : List ℕ). option_or (first_of (delete_fault earlier) numbers) (cond (eqb line.tag.code 0) None (rule_fault instance earlier line.tag line.lits line.rule))) (plain-deletes line.rule (plain-rule instance line.rule formed.rule))
    ∙ cond-false (eqb line.tag.code 0) None (rule_fault instance earlier line.tag line.lits line.rule) (ne_eqb line.tag.code 0 h)

-- a line that has a tag above (0, 0, 0) is no Delete line
pub entry-line : (instance : Instance) (line : Line) → IsLineOrDelete instance line → (line.tag.code ≡ 0 → ⊥) → IsLine instance line
entry-line instance line (inl formed) h = formed
entry-line instance line (inr deleting) h = absurd (h deleting.tag)

-- a Delete line has no literals
pub entry-literals : (instance : Instance) (line : Line) → IsLineOrDelete instance line → AreLiterals instance line.lits
entry-literals instance line (inl formed) = formed.lits
entry-literals instance line (inr deleting) = subst (AreLiterals instance) (sym deleting.lits) (record { in_range = λ k d l. absurd (omega arith); ascending = λ i j d l m. absurd (omega arith) })

pub if_ok : {X E : Type 0} (P Q : X → Type 0) (r : Result X E) → ((x : X) → P x → Q x) → IfOk r P → IfOk r Q
if_ok P Q (Ok x) h p = h x p
if_ok P Q (Err e) h p = tt
