-- Instances that no plan meets, for tests.
use Rattle.std.specs.Prelude.{ℕ, ◌+◌, false, List, [], ◌∷◌, pos, map}
use Rattle.std.specs.List.{range_with_len}
use Rattle.fapp_model.specs.declared.instance.Instance.{Instance}
use Rattle.fapp_model.specs.declared.instance.Path.{Path}
use Rattle.fapp_model.specs.declared.level.TheConstants.{LEVELS}
use Rattle.fapp_model.specs.declared.literal.Literal.{Literal}
use Rattle.fapp_model.specs.declared.record.Record.{Record}
use Rattle.fapp_model.specs.declared.record.Record.TheVariants.{Freq}
use Rattle.fapp_model.specs.Tags.{code_of}
use Rattle.fapp_model.specs.search.Partials.{literal}

-- a path of two frequencies
abbrev pub narrow_path : ℕ → Path
narrow_path number = record { number = number; freqs = 10 ∷ 20 ∷ []; pol = pos 1 }

abbrev pub crowded_paths : List ℕ → List Path
crowded_paths more = narrow_path 1 ∷ narrow_path 2 ∷ narrow_path 3 ∷ map narrow_path more

-- no two of the first three paths may have one frequency
abbrev pub pairwise_apart : List Record
pairwise_apart = Freq 0 1 false 0 ∷ Freq 0 2 false 0 ∷ Freq 1 2 false 0 ∷ []

-- the first three paths would need three frequencies; further ones follow by their numbers
unfoldable pub crowded : List ℕ → Instance
crowded more = record { paths = crowded_paths more; records = pairwise_apart }

-- the code of the tag below which every plan that meets an instance costs
abbrev pub top_code : ℕ
top_code = code_of (record { k = LEVELS + 1; v = 0; s = 0 })

-- the first choice of each of the first n paths
abbrev pub first_choices : ℕ → List Literal
first_choices n = map (λ path. literal path 0) (range_with_len 0 n)
