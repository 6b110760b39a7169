-- Good lines of a log: each is judged from the lines before it, the rows and the arcs.
use Rattle.std.specs.Prelude.{◌≡◌, ◌⊎◌, ℕ, ◌<◌, ◌≤◌, Bool, false, ◌==◌, List, ◌∷◌, length, take, slice_get, All, AllPairs, IsTrue, Option, Some, None}
use Rattle.std.specs.List.{AllZip, list_any}
use Rattle.fapp_model.specs.declared.instance.Instance.{Instance}
use Rattle.fapp_model.specs.declared.literal.Literal.{Literal}
use Rattle.fapp_model.specs.Assignments.{count_at}
use Rattle.fapp_model.specs.InstanceTags.{IsTagFor}
use Rattle.fapp_model.specs.Tags.{mode_level, triple_from}
use Rattle.fapp_model.specs.search.Arcs.{OutsideArc}
use Rattle.fapp_model.specs.search.Dead.{Dead, DeadBy}
use Rattle.fapp_model.specs.search.Partials.{AreLiterals, literal, names}
use Rattle.cert_lines.specs.acceptance.Contained.{has_all, has_all_but_one}
use Rattle.search_log.specs.declared.line.ChoiceRef.{ChoiceRef}
use Rattle.search_log.specs.declared.line.LogLine.{LogLine}
use Rattle.search_log.specs.Contents.{Cites, Content, KnownRow}

-- choices of a path of the instance, strictly ascending
pub record AreBranchRefs (instance : Instance) (path : ℕ) (refs : List ChoiceRef) : Type 0 where
  pub path_in_range : path < length instance.paths
  pub in_range : All (λ r. r.choice < count_at instance path) refs
  pub ascending : AllPairs (λ a b. a.choice < b.choice) refs

-- the references of a Branch line are its children; nothing is asked of the choices of a Count line
abbrev pub AreRefs : Instance → Option ℕ → List ChoiceRef → Type 0
AreRefs instance (Some path) refs = AreBranchRefs instance path refs
AreRefs instance None refs = Unit {0}

-- some cited literals are all among the literals and this one
abbrev pub is_ruled_out : List Content → List Literal → Literal → Bool
is_ruled_out contents literals a =
    list_any (λ content. has_all (a ∷ literals) content.lits) contents

-- a choice is outside the arcs of the tag's level, or ruled out by what is cited
abbrev pub IsOutside : Instance → ℕ → List Content → List Literal → Literal → Type 0
IsOutside instance tag contents literals a =
    OutsideArc instance (mode_level (triple_from tag)) a ⊎ IsTrue (is_ruled_out contents literals a)

-- A Count line passes: what it cites has its literals but at most one of a further path, at no
-- lower tag, and its literals are dead with the arcs and what is cited.
pub record IsCount (instance : Instance) (tag : ℕ) (literals : List Literal)
    (contents : List Content) : Type 0 where
  pub contained : All (λ content. IsTrue (has_all_but_one literals content.lits)) contents
  pub reaches : All (λ content. tag ≤ content.tag) contents
  pub dead : DeadBy (IsOutside instance tag contents literals) instance (triple_from tag) literals

-- a child's content has only the line's literals and the child's choice
abbrev pub IsChildOf : ℕ → List Literal → ChoiceRef → Content → Type 0
IsChildOf path literals ref content =
    IsTrue (has_all (literal path ref.choice ∷ literals) content.lits)

-- a choice has a child, or the literals are dead with it
abbrev pub IsSettled : Instance → ℕ → List Literal → ℕ → List ChoiceRef → ℕ → Type 0
IsSettled instance tag literals path refs choice =
    IsTrue (list_any (λ r. r.choice == choice) refs)
    ⊎ Dead instance (triple_from tag) (literal path choice ∷ literals)

-- A Branch line passes: its path is not named, what its children cite is theirs, at no lower tag,
-- and each choice of the path is settled.
pub record IsBranch (instance : Instance) (tag : ℕ) (literals : List Literal) (path : ℕ)
    (refs : List ChoiceRef) (contents : List Content) : Type 0 where
  pub apart : names literals path ≡ false
  pub contained : AllZip (IsChildOf path literals) refs contents
  pub reaches : All (λ content. tag ≤ content.tag) contents
  pub settled : (choice : ℕ) → choice < count_at instance path →
      IsSettled instance tag literals path refs choice

abbrev pub PassesBy : Instance → LogLine → List Content → Option ℕ → Type 0
PassesBy instance line contents (Some path) =
    IsBranch instance line.tag.code line.lits path line.refs contents
PassesBy instance line contents None = IsCount instance line.tag.code line.lits contents

-- A line is good from the rows and the lines before it: it has its form, each of its references
-- names something, and at a tag above (0, 0, 0) it passes with what they name.
pub record IsGoodLine (instance : Instance) (rows : List KnownRow) (earlier : List LogLine)
    (line : LogLine) : Type 0 where
  pub tag : IsTagFor instance line.tag
  pub lits : AreLiterals instance line.lits
  pub refs : AreRefs instance line.path line.refs
  pub contents : List Content
  pub cites : AllZip (λ ref content. Cites rows earlier ref.line content) line.refs contents
  pub passes : 0 < line.tag.code → PassesBy instance line contents line.path

-- each line is good from those before it
abbrev pub AreGoodLines : Instance → List KnownRow → List LogLine → Type 0
AreGoodLines instance rows lines =
    (n : ℕ) (line : LogLine) → slice_get lines n ≡ Some line →
    IsGoodLine instance rows (take n lines) line
