-- The lists of a tree, and how many lines it has.
use Rattle.std.proofs.Common.{◌≡◌, ◌≢◌, ℕ, ◌+◌, ◌-◌, ◌*◌, ◌<◌, ◌≤◌, List, [], ◌∷◌, ◌++◌, length, map, get_or, All, AllPairs, sym, ap, ◌∙◌, subst, append_assoc, arith}
use Rattle.std.specs.List.{flat_map, range_with_len}
use Rattle.std.proofs.lemmas.List.{get_or-map, get_or_append_left, length-append, length-map, length_push, map-append}
use Rattle.std.proofs.lemmas.List.Elements.{All-append, All-head, All-map, All-tail}
use Rattle.std.proofs.lemmas.List.FromFn.{length-map-range_with_len}
use Rattle.fapp_model.specs.declared.instance.Instance.{Instance}
use Rattle.fapp_model.specs.declared.literal.Literal.{Literal}
use Rattle.fapp_model.specs.declared.tag.Tag.{Tag}
use Rattle.fapp_model.specs.Assignments.{count_at}
use Rattle.fapp_model.specs.search.Partials.{literal}
use Rattle.cert_lines.specs.declared.answer.Line.{Line}
use Rattle.merge_laws.specs.Levels.{all_longer, level_line, emit_level, emit_prefixes, emit_tree, longer, prefix_line}
use Rattle.fapp_plan.specs.declared.steps.Step.{Step}
use Rattle.merge_laws.specs.Stages.{Merged}
use Rattle.cert_merge.specs.Growth.{AreOnPathsApart, AreStepsOf, AreWithSteps, IsStepOf, deepest, step_paths, with_out}
use Rattle.fapp_model.specs.declared.limits.TheConstants.{MAX_PATH_CHOICES}

-- ---- literals of different paths

apart-of : (paths : List ℕ) (literals : List Literal) → AllPairs (λ p q. p ≢ q) (map (λ a. a.path) literals ++ paths) → AreOnPathsApart literals
apart-of paths literals h i j d before inside =
    let all = length-map literals (λ (a : Literal). a.path) in
    let whole = length-append (map (λ (a : Literal). a.path) literals) paths in
    let at : (k : ℕ) → k < length literals → get_or (map (λ (a : Literal). a.path) literals ++ paths) k 0 ≡ (get_or literals k d).path =
    λ k l. get_or_append_left (map (λ (a : Literal). a.path) literals) paths 0 k (omega arith) ∙ get_or-map (λ (a : Literal). a.path) literals k d 0 l in
    λ same. h i j 0 before (omega arith) (at i (omega arith) ∙ (same ∙ sym (at j inside)))

pub all-apart : (paths : List ℕ) (lists : List (List Literal)) → AreWithSteps paths lists → All AreOnPathsApart lists
all-apart paths lists h k d l = apart-of paths (get_or lists k d) (h k d l)

-- ---- longer lists

abbrev Differ : List ℕ → List Literal → Type 0
Differ paths literals = AllPairs (λ p q. p ≢ q) (map (λ a. a.path) literals ++ paths)

one-longer : (instance : Instance) (path : ℕ) (paths : List ℕ) (literals : List Literal) → Differ (path ∷ paths) literals → All (Differ paths) (longer instance path literals)
one-longer instance path paths literals h =
    All-map (Differ paths) (λ index. literals ++ literal path index ∷ []) (range_with_len 0 (count_at instance path))
    (λ k d l. subst (λ xs. AllPairs (λ p q. p ≢ q) xs)
    (sym (ap (λ xs. xs ++ paths) (map-append (λ (a : Literal). a.path) literals (literal path (get_or (range_with_len 0 (count_at instance path)) k d) ∷ []))
    ∙ append_assoc (map (λ (a : Literal). a.path) literals) (path ∷ []) paths)) h)

pub longer-differ : (instance : Instance) (path : ℕ) (paths : List ℕ) (lists : List (List Literal)) → AreWithSteps (path ∷ paths) lists → AreWithSteps paths (all_longer instance path lists)
longer-differ instance path paths [] h = λ k d l. absurd (omega arith)
longer-differ instance path paths (literals ∷ lists) h =
    All-append (Differ paths) (longer instance path literals) (all_longer instance path lists)
    (one-longer instance path paths literals (All-head (Differ (path ∷ paths)) literals lists h))
    (longer-differ instance path paths lists (All-tail (Differ (path ∷ paths)) literals lists h))

pub longer-count : (instance : Instance) (path : ℕ) (lists : List (List Literal)) → length (all_longer instance path lists) ≡ length lists * count_at instance path
longer-count instance path [] = grind arith
longer-count instance path (literals ∷ lists) =
    let one = length-map-range_with_len (λ index. literals ++ literal path index ∷ []) 0 (count_at instance path) in
    let both = length-append (longer instance path literals) (all_longer instance path lists) in
    let more = longer-count instance path lists in
    grind arith

-- ---- how many lines

prefixes-length : (t : Tag) (number : ℕ → ℕ) (place : ℕ) (lists : List (List Literal)) (out : List Line) → length (emit_prefixes t number place lists out) ≡ length out + length lists
prefixes-length t number place [] out = omega arith
prefixes-length t number place (prefix ∷ lists) out =
    omega (arith, prefixes-length t number (place + 1) lists (out ++ prefix_line t prefix (number place) ∷ []), length_push out (prefix_line t prefix (number place)))

level-length : (instance : Instance) (t : Tag) (path next : ℕ) (lists : List (List Literal)) (out : List Line) → length (emit_level instance t path next lists out) ≡ length out + length lists
level-length instance t path next [] out = omega arith
level-length instance t path next (literals ∷ lists) out =
    omega (arith, level-length instance t path (next + count_at instance path) lists (out ++ level_line instance t path next literals ∷ []), length_push out (level_line instance t path next literals))

-- the lists have lines
pub tree-length : (instance : Instance) (t : Tag) (number : ℕ → ℕ) (paths : List ℕ) (lists : List (List Literal)) (out : List Line) → length lists ≤ length (emit_tree instance t number paths lists out)
tree-length instance t number [] lists out = omega (arith, prefixes-length t number 0 lists out)
tree-length instance t number (path ∷ paths) lists out =
    let below = emit_tree instance t number paths (all_longer instance path lists) out in
    omega (arith, level-length instance t path (length below + 1 - length (all_longer instance path lists)) lists below)

-- ---- one step

abbrev IsFit : Instance → Step → Type 0
IsFit instance step = IsStepOf instance step × (step.choices ≤ MAX_PATH_CHOICES)

pub step-head : (instance : Instance) (steps rest : List Step) (step : Step) → steps ≡ step ∷ rest → AreStepsOf instance steps → IsFit instance step × AreStepsOf instance rest
step-head instance steps rest step is h =
    let whole = subst (All (IsFit instance)) is h in
    (All-head (IsFit instance) step rest whole, All-tail (IsFit instance) step rest whole)

pub longer-is : (instance : Instance) (steps rest : List Step) (step : Step) (lists now items : List (List Literal)) → steps ≡ step ∷ rest → AreStepsOf instance steps → now ≡ items →
    ((other : Instance) → IsStepOf other step → items ≡ flat_map (longer other step.path) lists) → now ≡ all_longer instance step.path lists
longer-is instance steps rest step lists now items is fits same made = same ∙ made instance (step-head instance steps rest step is fits).0.0

pub longer-deepest : (instance : Instance) (steps rest : List Step) (step : Step) (lists deep all : List (List Literal)) → steps ≡ step ∷ rest → deep ≡ all_longer instance step.path lists →
    deepest instance (step_paths steps) lists ≡ all → deepest instance (step_paths rest) deep ≡ all
longer-deepest instance steps rest step lists deep all is deep_is h =
    ap (deepest instance (step_paths rest)) deep_is ∙ (ap (λ (these : List Step). deepest instance (step_paths these) lists) (sym is) ∙ h)

pub deep-differ : (instance : Instance) (steps rest : List Step) (step : Step) (lists deep : List (List Literal)) → steps ≡ step ∷ rest → deep ≡ all_longer instance step.path lists →
    AreWithSteps (step_paths steps) lists → AreWithSteps (step_paths rest) deep
deep-differ instance steps rest step lists deep is deep_is h =
    subst (AreWithSteps (step_paths rest)) (sym deep_is)
    (longer-differ instance step.path (step_paths rest) lists (subst (λ (all : List Step). AreWithSteps (step_paths all) lists) is h))

-- a level above the longer lists
module _ (instance : Instance) (t : Tag) (number : ℕ → ℕ) (steps rest : List Step) (step : Step) (lists deep : List (List Literal)) (s0 s1 : Merged) (is : steps ≡ step ∷ rest) (fits : AreStepsOf instance steps)
    (deep_is : deep ≡ all_longer instance step.path lists) (s1_is : s1 ≡ with_out s0 (emit_tree instance t number (step_paths rest) deep s0.out)) where
  abbrev below : List Line
  below = emit_tree instance t number (step_paths rest) (all_longer instance step.path lists) s0.out

  out-is : s1.out ≡ below
  out-is = ap (λ (v : Merged). v.out) s1_is ∙ ap (λ these. emit_tree instance t number (step_paths rest) these s0.out) deep_is

  -- the longer lists are fewer than the lines
  pub deep-inside : length deep ≤ length s1.out
  deep-inside = omega (arith, ap length deep_is, ap length out-is, tree-length instance t number (step_paths rest) (all_longer instance step.path lists) s0.out)

  pub level-few : (most first : ℕ) → length s1.out ≤ most → first ≡ length s1.out + 1 - length deep → first + length lists * step.choices ≤ most + 1
  level-few most first few at =
      let inside = deep-inside in
      let count = ap length deep_is ∙ longer-count instance step.path lists in
      let same : length lists * step.choices ≡ length lists * count_at instance step.path = ap (λ n. length lists * n) (step-head instance steps rest step is fits).0.0 in
      omega arith

  pub tree-whole : (first : ℕ) (s2 : Merged) → first ≡ length s1.out + 1 - length deep → s2 ≡ with_out s1 (emit_level instance t step.path first lists s1.out) →
      s2 ≡ with_out s0 (emit_tree instance t number (step_paths steps) lists s0.out)
  tree-whole first s2 at s2_is =
      let place : first ≡ length below + 1 - length (all_longer instance step.path lists) = omega (arith, at, ap length out-is, ap length deep_is) in
      s2_is
      ∙ (ap (λ v. with_out v (emit_level instance t step.path first lists v.out)) s1_is
      ∙ (ap (λ these. with_out s0 (emit_level instance t step.path first lists (emit_tree instance t number (step_paths rest) these s0.out))) deep_is
      ∙ (ap (λ n. with_out s0 (emit_level instance t step.path n lists below)) place
      ∙ ap (λ (all : List Step). with_out s0 (emit_tree instance t number (step_paths all) lists s0.out)) (sym is))))
