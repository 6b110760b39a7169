-- An accepted answer is right.
use Rattle.std.proofs.Common.{◌≡◌, ◌≢◌, ℕ, ◌≤◌, Bool, true, false, ◌||◌, List, [], ◌∷◌, length, fold, refl, ap, subst, ◌∙◌, arith, Option, Some, None, All, eqb, ltb, cond}
use Rattle.std.specs.Option.{option_map}
use Rattle.std.proofs.lemmas.Bool.{and_parts, eqb-true, leb-true}
use Rattle.std.proofs.lemmas.List.Elements.{All-head, All-tail}
use Rattle.fapp_model.specs.declared.choice.Choice.{Choice}
use Rattle.fapp_model.specs.declared.instance.Instance.{Instance}
use Rattle.fapp_model.specs.declared.literal.Literal.{Literal}
use Rattle.fapp_model.specs.declared.tag.Tag.{Tag}
use Rattle.fapp_model.specs.declared.triple.Triple.{Triple}
use Rattle.fapp_model.specs.declared.level.TheConstants.{MAX_LEVELS}
use Rattle.fapp_model.specs.Levels.{levels_of}
use Rattle.fapp_model.proofs.LevelNumbers.{levels-few}
use Rattle.fapp_model.proofs.TagParts.{tag_from_plain}
use Rattle.fapp_model.specs.Costs.{cost}
use Rattle.fapp_model.specs.search.Implied.{Implied}
use Rattle.fapp_model.specs.Instances.{IsInstance}
use Rattle.fapp_model.specs.Tags.{code_of, has_limit, is_code, is_tag, top_tag, triple_from}
use Rattle.fapp_model.specs.Triples.{IsBelow}
use Rattle.cert_lines.specs.declared.answer.Answer.{Answer}
use Rattle.cert_lines.specs.declared.answer.Line.{Line}
use Rattle.cert_lines.specs.declared.answer.Verdict.{Verdict}
use Rattle.cert_lines.specs.declared.answer.Verdict.TheVariants.{Best, NoneFeasible, Open}
use Rattle.cert_lines.specs.WellFormed.{IsWellFormed, IsVerdict}
use Rattle.cert_lines.proofs.Codes.{small_tag, triple_from-code_of, is_tag-code}
use Rattle.dead_laws.proofs.ImpliedLemmas.{Implied-lower, none-at-top}
use Rattle.cert_lines.specs.acceptance.Accepts.{answer_fault}
use Rattle.accept_laws.specs.Answers.{HasNoFault, IsRight, Shows}
use Rattle.cert_lines.specs.acceptance.Deleted.{kept}
use Rattle.cert_lines.specs.acceptance.LineFaults.{lines_fault, rejected_at}
use Rattle.accept_laws.specs.Lines.{IsLineImplied}
use Rattle.cert_lines.specs.acceptance.PlanFaults.{demanded, indices, is_same_triple, plan_fault, shown_fault_by}
use Rattle.cert_lines.specs.acceptance.RootFaults.{greater, is_root, root_fault, root_fault_by, root_tag, tag_by, tag_for, verdict_tag, with_root_line}
use Rattle.fapp_model.proofs.CodeOrder.{codes-at_most}
use Rattle.cert_lines.proofs.Deleting.{all-kept, entries-of}
use Rattle.accept_laws.proofs.GoodLines.{clean-lines, good-none, good-lines}
use Rattle.accept_laws.proofs.Options.{both-none, mapped-none, neither, cause_unless-none}
use Rattle.accept_laws.proofs.ShownPlans.{same-triples, shown-plan}
use Rattle.accept_laws.proofs.LineGrowth.{none-mapped}

-- what a root line says
abbrev IsRootImplied : Instance → Option Tag → Type 0
IsRootImplied instance None = Unit {0}
IsRootImplied instance (Some t) = Implied instance (triple_from t.code) []

module _ (instance : Instance) where
  no-literals : (literals : List Literal) → eqb (length literals) 0 ≡ true → literals ≡ []
  no-literals [] h = refl
  no-literals (a ∷ literals) h = absurd (let e = eqb-true (length (a ∷ literals)) 0 h in omega arith)

  greater-implied : (found : Option Tag) (t : Tag) → IsRootImplied instance found → Implied instance (triple_from t.code) [] → IsRootImplied instance (Some (greater found t))
  greater-implied None t h g = g
  greater-implied (Some u) t h g = by_order (ltb u.code t.code)
    where
      by_order : (b : Bool) → Implied instance (triple_from (let w : Tag = cond b t u in w).code) []
      by_order true = g
      by_order false = h

  step : (found : Option Tag) (line : Line) → IsRootImplied instance found → IsLineImplied instance line → (b : Bool) → is_root line ≡ b → IsRootImplied instance (cond b (Some (greater found line.tag)) found)
  step found line h g true e = greater-implied found line.tag h (subst (Implied instance (triple_from line.tag.code)) (no-literals line.lits e) g)
  step found line h g false e = h

  roots-implied : (found : Option Tag) (lines : List Line) → IsRootImplied instance found → All (IsLineImplied instance) lines → IsRootImplied instance (fold with_root_line found lines)
  roots-implied found [] h all = h
  roots-implied found (line ∷ lines) h all =
      roots-implied (with_root_line found line) lines (step found line h (All-head (IsLineImplied instance) line lines all) (is_root line) refl) (All-tail (IsLineImplied instance) line lines all)

  pub root-implied : (lines : List Line) → All (IsLineImplied instance) lines → IsRootImplied instance (root_tag lines)
  unfolding root_tag
  root-implied lines all = roots-implied None lines tt all

  at-root : (claimed : Tag) (found : Option Tag) → IsRootImplied instance found → root_fault_by claimed found ≡ None → Implied instance (triple_from claimed.code) []
  at-root claimed None h e = absurd (cc)
  at-root claimed (Some t) h e = Implied-lower instance (triple_from t.code) (triple_from claimed.code) [] (codes-at_most claimed.code t.code (leb-true _ _ (cause_unless-none _ _ e))) h

  pub claimed-implied : (verdict : Verdict) (lines : List Line) → All (IsLineImplied instance) lines → root_fault instance verdict lines ≡ None → Implied instance (triple_from (verdict_tag instance verdict).code) []
  unfolding root_fault
  claimed-implied verdict lines all e = at-root (verdict_tag instance verdict) (root_tag (kept lines)) (root-implied (kept lines) (all-kept (IsLineImplied instance) lines all)) e

tag_by-code : (code : ℕ) (b : Bool) (h : is_code code ≡ b) → b ≡ true → (tag_by code b h).code ≡ code
tag_by-code code true h e = refl
tag_by-code code false h e = absurd (cc)

-- the triple of the tag of a triple
pub tag_for-triple : (levels : ℕ) (t : Triple) → levels ≤ MAX_LEVELS → is_tag levels t ≡ true → triple_from (tag_for t).code ≡ t
unfolding tag_for
tag_for-triple levels t few h = ap triple_from (tag_by-code (code_of t) (is_code (code_of t)) refl (is_tag-code levels t few h)) ∙ triple_from-code_of t (small_tag levels t few h)

right : (instance : Instance) (shown : List Choice) (verdict : Verdict) → IsVerdict instance verdict → shown_fault_by instance shown (demanded instance verdict) ≡ None → Implied instance (triple_from (verdict_tag instance verdict).code) [] → IsRight instance shown verdict
right instance shown (Best t) formed plan root =
    let shows = shown-plan instance shown t plan in
    let parts = and_parts (is_tag (levels_of instance) t) (has_limit t || eqb t.k 0) formed in
    let bound = subst (λ u. Implied instance u []) (tag_for-triple (levels_of instance) t (levels-few instance).1 parts.0) root in (
      indices instance shown,
      shows,
      record {
        feasible = shows.feasible;
        least = λ other feasible below. bound other feasible (λ k d l. absurd (omega arith)) (subst (IsBelow (cost instance other)) shows.cost below);
      },
    )
right instance shown NoneFeasible formed plan root = λ other feasible. none-at-top instance other [] (subst (λ u. Implied instance u []) (tag_for-triple (levels_of instance) (top_tag instance) (levels-few instance).1 (tag_from_plain (levels_of instance) (top_tag instance) refl refl (omega arith))) root) feasible (λ k d l. absurd (omega arith))
right instance shown (Open best lower level prefix) formed plan root = (root, by_shown (is_same_triple best (top_tag instance)) refl plan)
  where
    by_shown : (b : Bool) → is_same_triple best (top_tag instance) ≡ b → shown_fault_by instance shown (cond b None (Some best)) ≡ None → best ≢ top_tag instance → (plan : List ℕ) × Shows instance shown best plan
    by_shown true same h apart = absurd (apart (same-triples best (top_tag instance) same))
    by_shown false same h apart = (indices instance shown, shown-plan instance shown best h)

-- what an accepted answer has passed
pub accepted-parts : (instance : Instance) (answer : Answer) → answer_fault instance answer ≡ None → HasNoFault instance answer
unfolding answer_fault
accepted-parts instance answer h =
    let first = neither (option_map (rejected_at 0) (plan_fault instance answer.plan answer.verdict)) _ h in
    let rest = neither (lines_fault instance answer.lines) (option_map (rejected_at 0) (root_fault instance answer.verdict answer.lines)) first.1 in
    record {
      plan = mapped-none (rejected_at 0) _ first.0;
      lines = clean-lines instance answer.lines rest.0;
      root = mapped-none (rejected_at 0) (root_fault instance answer.verdict answer.lines) rest.1;
    }

pub parts-accepted : (instance : Instance) (answer : Answer) → HasNoFault instance answer → answer_fault instance answer ≡ None
unfolding answer_fault
parts-accepted instance answer h =
    both-none (option_map (rejected_at 0) (plan_fault instance answer.plan answer.verdict)) _ (none-mapped (rejected_at 0) _ h.plan)
    (both-none (lines_fault instance answer.lines) (option_map (rejected_at 0) (root_fault instance answer.verdict answer.lines)) (good-none instance answer.lines h.lines) (none-mapped (rejected_at 0) _ h.root))

pub accepted-right : (instance : Instance) (answer : Answer) → IsInstance instance → IsWellFormed instance answer → answer_fault instance answer ≡ None → IsRight instance answer.plan answer.verdict
unfolding plan_fault
accepted-right instance answer valid formed h =
    let parts = accepted-parts instance answer h in
    right instance answer.plan answer.verdict formed.verdict parts.plan
    (claimed-implied instance answer.verdict answer.lines (good-lines instance answer.lines valid (entries-of instance answer formed) parts.lines) parts.root)

pub tag_for-code : (levels : ℕ) (t : Triple) → levels ≤ MAX_LEVELS → is_tag levels t ≡ true → (tag_for t).code ≡ code_of t
unfolding tag_for
tag_for-code levels t few h = tag_by-code (code_of t) (is_code (code_of t)) refl (is_tag-code levels t few h)
