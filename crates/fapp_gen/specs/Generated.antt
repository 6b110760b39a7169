-- The text of the network that a number makes: two domains of ten frequencies, and paths that all
-- hang on the first two.
use Rattle.std.specs.Prelude.{ℕ, ◌+◌, ◌-◌, ◌*◌, ◌%◌, ◌==◌, Bool, List, [], ◌∷◌, ◌++◌, map, codes, decimal, if◌then◌else◌}
use Rattle.std.specs.List.{flat_map, range_with_len}
use Rattle.fapp_gen.specs.Lines.{falling, line_text, numbered}

-- a domain: ten frequencies that lie 10 apart
unfoldable pub domain_lines : ℕ → ℕ → List (List (List ℕ))
domain_lines domain first =
    map (λ place. numbered (codes "DM") (domain ∷ (first + 10 * place) ∷ [])) (range_with_len 0 10)

-- a path that may take either polarization
abbrev pub path_line : ℕ → ℕ → List (List ℕ)
path_line path domain = numbered (codes "TR") (path ∷ domain ∷ 0 ∷ [])

-- the distances between two paths where their polarizations are equal (CE) or differ (CD)
unfoldable pub distance_line : List ℕ → ℕ → ℕ → List ℕ → List (List ℕ)
distance_line word i j distances = numbered word (i ∷ j ∷ distances)

-- the first two paths, which choose from the first domain
unfoldable pub first_lines : List (List (List ℕ))
first_lines = path_line 1 1 ∷ path_line 2 1 ∷ []

abbrev pub is_odd : ℕ → Bool
is_odd path = path % 2 == 1

-- the one of the first two paths that fixes a further path's frequency and polarization, and the
-- one that disturbs it
abbrev pub fixed_by : ℕ → ℕ
fixed_by path = if is_odd path then 1 else 2

abbrev pub disturbed_by : ℕ → ℕ
disturbed_by path = if is_odd path then 2 else 1

-- how far a further path's frequency lies from the one that fixes it
abbrev pub offset : ℕ → ℕ → ℕ
offset number path = 2000 + 10 * ((number + path) % 4)

-- by how much more than 2000 (equal polarizations) or 1970 (different ones) it must lie from the
-- one that disturbs it, at level 0
abbrev pub stretch : ℕ → ℕ → ℕ
stretch number path = 10 * (number * path % 10)

-- an imperative record of two paths that holds where their frequencies (F) lie so far apart, or
-- where their polarizations (P) are equal
unfoldable pub imperative_line : List ℕ → ℕ → ℕ → ℕ → List (List ℕ)
imperative_line kind i j n = codes "CI" ∷ decimal i ∷ decimal j ∷ kind ∷ codes "E" ∷ decimal n ∷ []

-- the lines of the records of a further path
unfoldable pub record_lines : ℕ → ℕ → List (List (List ℕ))
record_lines number path = imperative_line (codes "F") (fixed_by path) path (offset number path)
    ∷ imperative_line (codes "P") (fixed_by path) path 0
    ∷ distance_line (codes "CE") (disturbed_by path) path (falling (2000 + stretch number path) 10)
    ∷ distance_line (codes "CD") (disturbed_by path) path (falling (1970 + stretch number path) 10)
    ∷ []

-- all lines of the network of a number and so many paths, at least two
unfoldable pub network_lines : ℕ → ℕ → List (List (List ℕ))
network_lines number paths = domain_lines 1 1000 ++ (domain_lines 2 3000
    ++ (first_lines ++ (map (λ path. path_line path 2) (range_with_len 3 (paths - 2))
    ++ (distance_line (codes "CE") 1 2 (falling 50 5) ∷ distance_line (codes "CD") 1 2 (falling 0 0)
    ∷ flat_map (record_lines number) (range_with_len 3 (paths - 2))))))

unfoldable pub network_text : ℕ → ℕ → List ℕ
network_text number paths = flat_map line_text (network_lines number paths)
