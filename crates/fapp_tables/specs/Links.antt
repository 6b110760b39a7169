-- Records as seen from each of the paths that they name.
use Rattle.std.specs.Prelude.{◌≡◌, ◌⊎◌, ◌↔◌, ℕ, ◌+◌, ◌*◌, ◌<◌, ◌≤◌, List, [], ◌∷◌, length, flat_map, AllPairs, Contains, IsTrue}
use Rattle.std.specs.List.{range_with_len}
use Rattle.fapp_model.specs.declared.instance.Instance.{Instance}
use Rattle.fapp_model.specs.Records.{first_path, second_path}
use Rattle.fapp_tables.specs.declared.links.Side.{Side}
use Rattle.fapp_tables.specs.Indexes.{record_at, touches}

-- the links of the record at a position: from its first path, and from its second
abbrev pub links_at : Instance → ℕ → List Side
links_at instance k =
    record {
      path = first_path (record_at instance k);
      other = second_path (record_at instance k);
      position = k;
    }
    ∷ record {
      path = second_path (record_at instance k);
      other = first_path (record_at instance k);
      position = k;
    }
    ∷ []

-- the links of all records, record by record
abbrev pub all_links : Instance → List Side
all_links instance = flat_map (links_at instance) (range_with_len 0 (length instance.records))

-- a record of the instance names both paths
pub record IsSide (instance : Instance) (a : Side) : Type 0 where
  pub inside : a.position < length instance.records
  pub touching : IsTrue (touches a.path a.other (record_at instance a.position))

-- a link's path, other path and position are not above another one's, where the first that differs
-- decides
abbrev pub IsSideNotAfter : Side → Side → Type 0
IsSideNotAfter a b = (a.path < b.path)
    ⊎ ((a.path ≡ b.path) × ((a.other < b.other) ⊎ ((a.other ≡ b.other)
    × (a.position ≤ b.position))))

-- the two paths of a link as one number
abbrev pub pair_rank : Side → ℕ
pair_rank a = a.path * 65536 + a.other

-- the place of a link in the order by path, other path and position, as one number
abbrev pub link_rank : Side → ℕ
link_rank a = pair_rank a * 4294967296 + a.position

-- all links of an instance, each once, in order
pub record AreSortedLinks (instance : Instance) (links : List Side) : Type 0 where
  pub count : length links ≡ 2 * length instance.records
  pub members : (a : Side) → Contains links a ↔ IsSide instance a
  pub rising : AllPairs (λ a b. link_rank a < link_rank b) links
