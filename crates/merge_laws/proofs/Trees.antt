-- The whole tree, and its root.
use Rattle.std.proofs.Common.{◌≡◌, ◌≢◌, ℕ, ◌+◌, ◌-◌, ◌<◌, Bool, false, ◌||◌, List, [], ◌∷◌, ◌++◌, length, get_or, refl, sym, subst, ◌∙◌, inl, inr, arith, All, AllPairs, Contains, eqb}
use Rattle.std.specs.List.{range_with_len}
use Rattle.std.proofs.lemmas.Bool.{eq-eqb, ne_eqb, true≢false}
use Rattle.std.proofs.lemmas.List.{length_push}
use Rattle.std.proofs.lemmas.List.Elements.{All-contains, All-head, All-tail, All-nil, All-push, Contains-get_or}
use Rattle.std.proofs.lemmas.List.Folds.{list_any-append}
use Rattle.std.proofs.lemmas.List.Quantifiers.{all_pairs_push}
use Rattle.fapp_model.specs.declared.instance.Instance.{Instance}
use Rattle.fapp_model.specs.declared.literal.Literal.{Literal}
use Rattle.fapp_model.specs.declared.tag.Tag.{Tag}
use Rattle.fapp_model.specs.Assignments.{count_at}
use Rattle.fapp_model.specs.Instances.{IsInstance}
use Rattle.fapp_model.specs.InstanceTags.{IsTagFor}
use Rattle.fapp_model.specs.search.Partials.{IsLiteral, IsPartial, literal, names}
use Rattle.fapp_model.proofs.Anys.{none-member}
use Rattle.fapp_model.proofs.InOrder.{pairs-head, pairs-nil, pairs-tail}
use Rattle.fapp_model.proofs.Members.{at_front, behind, from-flat_map, from-map, from-range, front_or_behind, no_member}
use Rattle.cert_lines.specs.declared.answer.Line.{Line}
use Rattle.accept_laws.specs.Lines.{AreGood}
use Rattle.merge_laws.specs.Fates.{AreMarked, StandsAt}
use Rattle.merge_laws.specs.Levels.{all_longer, emit_level, emit_prefixes, emit_tree, longer, prefix_line, level_line}
use Rattle.merge_laws.proofs.BottomLists.{bottom}
use Rattle.merge_laws.proofs.GrowingCertificates.{AreFormed}
use Rattle.merge_laws.proofs.Tree.{AreSettled, IsLevel, bottomed, level-good}
use Rattle.merge_laws.proofs.TreeLines.{says}

-- ---- how many lines

pub length-level : (instance : Instance) (t : Tag) (path : ℕ) (lists : List (List Literal)) (next : ℕ) (out : List Line) → length (emit_level instance t path next lists out) ≡ length out + length lists
length-level instance t path [] next out = omega arith
length-level instance t path (literals ∷ lists) next out =
    let rest = length-level instance t path lists (next + count_at instance path) (out ++ level_line instance t path next literals ∷ []) in
    let one = length_push out (level_line instance t path next literals) in omega arith

pub length-prefixes : (t : Tag) (number : ℕ → ℕ) (lists : List (List Literal)) (place : ℕ) (out : List Line) → length (emit_prefixes t number place lists out) ≡ length out + length lists
length-prefixes t number [] place out = omega arith
length-prefixes t number (literals ∷ lists) place out =
    let rest = length-prefixes t number lists (place + 1) (out ++ prefix_line t literals (number place) ∷ []) in
    let one = length_push out (prefix_line t literals (number place)) in omega arith

-- ---- one more literal

-- partial assignments, none of which names any of some paths
abbrev pub AreOpen : Instance → List ℕ → List (List Literal) → Type 0
AreOpen instance paths lists = (literals : List Literal) → Contains lists literals → IsPartial instance literals × ((path : ℕ) → Contains paths path → names literals path ≡ false)

module _ (instance : Instance) (path : ℕ) (paths : List ℕ) (lists : List (List Literal)) (small : path < length instance.paths) (apart : (p : ℕ) → Contains paths p → path ≢ p) (open_now : AreOpen instance (path ∷ paths) lists) where
  one-behind : (literals : List Literal) (index : ℕ) → Contains lists literals → index < count_at instance path → IsPartial instance (literals ++ literal path index ∷ [])
  one-behind literals index m below =
      let home = open_now literals m in
      let partial = home.0 in
      let free = home.1 path (at_front path paths) in
      record {
        in_range = All-push (IsLiteral instance) literals (literal path index) partial.in_range (record { path = small; choice = below });
        distinct = all_pairs_push (λ (a b : Literal). a.path ≢ b.path) literals (literal path index) partial.distinct (λ k d l. other (get_or literals k d) (Contains-get_or literals k d l) free);
      }
    where
      other : (a : Literal) → Contains literals a → names literals path ≡ false → a.path ≢ path
      other a c free e = absurd (true≢false (sym (eq-eqb a.path path e) ∙ none-member (λ (b : Literal). eqb b.path path) literals free a c))

  still-free : (literals : List Literal) (index p : ℕ) → Contains lists literals → Contains paths p → names (literals ++ literal path index ∷ []) p ≡ false
  still-free literals index p m c = list_any-append (λ (a : Literal). eqb a.path p) literals (literal path index ∷ []) ∙ both ((open_now literals m).1 p (behind path paths p c)) (ne_eqb path p (apart p c))
    where
      both : {a b : Bool} → a ≡ false → b ≡ false → (a || (b || false)) ≡ false
      both e g = rw (e, g) refl

  longer-open : AreOpen instance paths (all_longer instance path lists)
  longer-open literals m =
      let first = from-flat_map (longer instance path) lists literals m in
      let next = from-map (λ index. first.0 ++ literal path index ∷ []) (range_with_len 0 (count_at instance path)) literals first.2 in
      let below = from-range (count_at instance path) next.0 next.1 in
      subst (λ (l : List Literal). IsPartial instance l × ((p : ℕ) → Contains paths p → names l p ≡ false)) next.2
      (one-behind first.0 next.0 first.1 below, λ p c. still-free first.0 next.0 p first.1 c)

-- ---- the tree

module _ (instance : Instance) (t : Tag) (own : IsTagFor instance t) (some : 0 < t.code) (valid : IsInstance instance) (paths_are : 0 < length instance.paths) (number : ℕ → ℕ) where
  abbrev pub tree : List ℕ → List (List Literal) → List Line → List Line
  tree paths lists out = emit_tree instance t number paths lists out

  pub tree-good : (paths : List ℕ) (lists : List (List Literal)) (out : List Line) → All (λ path. path < length instance.paths) paths → AllPairs (λ p q. p ≢ q) paths → AreOpen instance paths lists →
      AreGood instance out → AreFormed instance out → AreMarked instance out → AreSettled instance t own some out number 0 (bottom instance paths lists) →
      IsLevel instance (tree paths lists out) t (length (tree paths lists out) + 1 - length lists) lists
  tree-good [] lists out small apart open_now good formed marked settled =
      subst (λ n. IsLevel instance (tree [] lists out) t n lists) (let e = length-prefixes t number lists 0 out in omega arith)
      (bottomed instance t own some valid paths_are number lists 0 out good formed marked (λ l m. (open_now l m).0) settled).level
  tree-good (path ∷ paths) lists out small apart open_now good formed marked settled =
      let here = All-head (λ p. p < length instance.paths) path paths small in
      let others : (p : ℕ) → Contains paths p → path ≢ p = λ p m. All-contains (λ q. path ≢ q) paths p (pairs-head (λ p q. p ≢ q) path paths apart) m in
      let below = tree paths (all_longer instance path lists) out in
      let level = tree-good paths (all_longer instance path lists) out (All-tail (λ p. p < length instance.paths) path paths small) (pairs-tail (λ p q. p ≢ q) path paths apart)
      (longer-open instance path paths lists here others open_now) good formed marked settled in
      subst (λ n. IsLevel instance (tree (path ∷ paths) lists out) t n lists) (let e = length-level instance t path lists (length below + 1 - length (all_longer instance path lists)) below in omega arith)
      (level-good instance t own some path here lists (length below + 1 - length (all_longer instance path lists)) below (λ l m. ((open_now l m).0, (open_now l m).1 path (at_front path paths))) level)

  nothing-open : (paths : List ℕ) → AreOpen instance paths ([] ∷ [])
  nothing-open paths literals m = elim (front_or_behind [] [] literals m) [
    | inl same ↦ subst (λ (l : List Literal). IsPartial instance l × ((p : ℕ) → Contains paths p → names l p ≡ false)) same (empty, λ p c. refl)
    | inr none ↦ absurd (no_member literals none)
  ]
    where
      empty : IsPartial instance []
      empty = record { in_range = All-nil (IsLiteral instance); distinct = pairs-nil (λ (a b : Literal). a.path ≢ b.path) }

  -- the whole tree ends with its root
  pub rooted-tree : (paths : List ℕ) (out : List Line) → All (λ path. path < length instance.paths) paths → AllPairs (λ p q. p ≢ q) paths →
      AreGood instance out → AreFormed instance out → AreMarked instance out → AreSettled instance t own some out number 0 (bottom instance paths ([] ∷ [])) →
      AreGood instance (tree paths ([] ∷ []) out) × AreFormed instance (tree paths ([] ∷ []) out) × StandsAt (tree paths ([] ∷ []) out) (says t []) (length (tree paths ([] ∷ []) out))
  rooted-tree paths out small apart good formed marked settled =
      let level = tree-good paths ([] ∷ []) out small apart (nothing-open paths) good formed marked settled in
      (level.good, level.formed, subst (StandsAt (tree paths ([] ∷ []) out) (says t [])) (let e : length (tree paths ([] ∷ []) out) + 1 - 1 ≡ length (tree paths ([] ∷ []) out) = omega arith in e) level.numbered.0)
