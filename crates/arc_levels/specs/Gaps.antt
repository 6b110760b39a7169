-- From which frequency on a choice of another path may go with a choice.
use Rattle.std.specs.Prelude.{◌≡◌, ℕ, ◌<◌, ◌≤◌, Bool, true, false, IsTrue, length}
use Rattle.fapp_model.specs.declared.choice.Choice.{Choice}
use Rattle.fapp_model.specs.declared.instance.Instance.{Instance}
use Rattle.fapp_model.specs.declared.level.TheConstants.{MAX_LEVELS}
use Rattle.fapp_model.specs.Instances.{IsInstance}
use Rattle.fapp_model.specs.search.Clashes.{shares_record}
use Rattle.fapp_tables.specs.Indexes.{clashes_between, records_of}
use Rattle.arc_levels.specs.declared.gaps.Edge.{Edge}

-- two paths that share records, with the positions of these
pub record IsPair (pair : Edge) : Type 0 where
  pub valid : IsInstance pair.instance.now
  pub level : pair.level ≤ MAX_LEVELS
  pub path : pair.path < length pair.instance.now.paths
  pub other : pair.other < length pair.instance.now.paths
  pub shares : IsTrue (shares_record pair.instance.now pair.path pair.other)
  pub positions : pair.positions.now ≡ records_of pair.instance.now pair.path pair.other

-- the pair of two paths at a level
pub record IsPairOf (instance : Instance) (level path other : ℕ) (pair : Edge) : Type 0 where
  pub instance_is : pair.instance.now ≡ instance
  pub level_is : pair.level ≡ level
  pub path_is : pair.path ≡ path
  pub other_is : pair.other ≡ other

-- some record of a pair is hard-bad between a choice of its path and one of the other
abbrev pub pair_clash : Edge → Choice → Choice → Bool
pair_clash pair a b = clashes_between pair.instance.now pair.level pair.path pair.other a b

-- no number from a number on and below another passes a test, and the number itself does where the
-- two are one
pub record IsFirst (test : ℕ → Bool) (number first : ℕ) : Type 0 where
  pub from : number ≤ first
  pub before : (n : ℕ) → number ≤ n → n < first → test n ≡ false
  pub here : first ≡ number → test number ≡ true

-- each choice of the same polarization at a frequency from a choice's on and below another is bad,
-- and the choice itself isn't where the two are one
pub record IsNextApart (bad : Choice → Bool) (b : Choice) (next : ℕ) : Type 0 where
  pub from : b.freq ≤ next
  pub before : (c : Choice) → c.pol ≡ b.pol → b.freq ≤ c.freq → c.freq < next → bad c ≡ true
  pub here : next ≡ b.freq → bad b ≡ false
