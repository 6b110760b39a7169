-- What holds of the definitions that everything rests on.
use Rattle.std.specs.Prelude.{◌≡◌, ◌↔◌, ℕ, ◌<◌, List, length, IsTrue}
use Rattle.fapp_model.specs.declared.instance.Instance.{Instance}
use Rattle.fapp_model.specs.declared.literal.Literal.{Literal}
use Rattle.fapp_model.specs.declared.triple.Triple.{Triple}
use Rattle.fapp_model.specs.declared.limits.TheConstants.{MAX_NUMBER, MAX_TEXT, MAX_PATHS, MAX_RECORDS, MAX_DOMAIN_RECORDS, MAX_DOMAIN_FREQUENCIES, MAX_CHOICES, MAX_DEPTH, MAX_PATH_CHOICES, V_SPAN, S_SPAN}
use Rattle.fapp_model.specs.Tags.{code_of, is_tag, triple_from}
use Rattle.fapp_model.specs.Triples.{IsBelow}
use Rattle.fapp_model.specs.search.Partials.{AreLiterals, IsPartial}
use Rattle.fapp_model.specs.search.WorkOrder.{IsWorkOrder, work_order}

-- The limits as numbers.
pub record LimitsAre : Type 0 where
  pub number : MAX_NUMBER ≡ 1000000000
  pub text : MAX_TEXT ≡ 1073741824
  pub paths : MAX_PATHS ≡ 8192
  pub records : MAX_RECORDS ≡ 2097152
  pub domain_records : MAX_DOMAIN_RECORDS ≡ 1048576
  pub domain_frequencies : MAX_DOMAIN_FREQUENCIES ≡ 32768
  pub choices : MAX_CHOICES ≡ 4194304
  pub path_choices : MAX_PATH_CHOICES ≡ 65536
  pub depth : MAX_DEPTH ≡ 64
  pub violations : V_SPAN ≡ 67108864
  pub sums : S_SPAN ≡ 67108864

-- Codes are ordered as the triples that they stand for, and so are tags and their codes; each gives
-- the other back.
pub record CodesFollowTags : Type 0 where
  pub order : (c d : ℕ) → IsBelow (triple_from c) (triple_from d) ↔ (c < d)
  pub code_back : (c : ℕ) → code_of (triple_from c) ≡ c
  pub tag_order : (levels : ℕ) (t u : Triple) → IsTrue (is_tag levels t) →
      IsTrue (is_tag levels u) →
      IsBelow t u ↔ (code_of t < code_of u)
  pub tag_back : (levels : ℕ) (t : Triple) → IsTrue (is_tag levels t) → triple_from (code_of t) ≡ t

-- Literals that ascend by path name each path once.
abbrev pub LiteralsArePartial : Type 0
LiteralsArePartial =
    (instance : Instance) (literals : List Literal) → AreLiterals instance literals →
    IsPartial instance literals

-- An instance has one work order, which is as long as its list of paths.
pub record OneWorkOrder : Type 0 where
  pub is : (instance : Instance) → IsWorkOrder instance (work_order instance)
  pub one : (instance : Instance) (order : List ℕ) → IsWorkOrder instance order →
      order ≡ work_order instance
  pub whole : (instance : Instance) → length (work_order instance) ≡ length instance.paths
