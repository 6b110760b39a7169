-- Records that stand between two choices.
use Rattle.std.specs.Prelude.{ℕ, Bool, ◌&&◌, ◌||◌, ◌==◌, List}
use Rattle.std.specs.List.{list_any}
use Rattle.fapp_model.specs.declared.choice.Choice.{Choice}
use Rattle.fapp_model.specs.declared.instance.Instance.{Instance}
use Rattle.fapp_model.specs.declared.literal.Literal.{Literal}
use Rattle.fapp_model.specs.declared.record.Record.{Record}
use Rattle.fapp_model.specs.search.Partials.{choice_of}
use Rattle.fapp_model.specs.Records.{first_path, second_path, is_broken, is_bad}

-- a record names one path first and the other second
abbrev pub joins : ℕ → ℕ → Record → Bool
joins first second r = (first_path r == first) && (second_path r == second)

-- some record names both paths
abbrev pub shares_record : Instance → ℕ → ℕ → Bool
shares_record instance path other =
    list_any (λ r. joins path other r || joins other path r) instance.records

-- hard-bad at a level: an imperative record that is broken, or a compatibility record that is bad
-- there
abbrev pub is_hard_bad : ℕ → Record → Choice → Choice → Bool
is_hard_bad level r a b = is_broken r a b || is_bad level r a b

-- some record that names the first literal's path first is hard-bad between the two
abbrev pub blocks : Instance → ℕ → Literal → Literal → Bool
blocks instance level a b =
    list_any (λ r. joins a.path b.path r && is_hard_bad level r (choice_of instance a)
    (choice_of instance b)) instance.records

-- some record is hard-bad between two literals
abbrev pub clashes : Instance → ℕ → Literal → Literal → Bool
clashes instance level a b = blocks instance level a b || blocks instance level b a

-- some record is hard-bad between a literal and one of a list
abbrev pub clashes_with : Instance → ℕ → List Literal → Literal → Bool
clashes_with instance level literals a = list_any (clashes instance level a) literals
