-- What an assignment costs, counted afresh from the list of records.
use Rattle.std.specs.Prelude.{ℕ, zero, suc, ◌-◌, nat_lt, List, sum_by, count_by}
use Rattle.std.specs.List.{range_with_len, prefix_len}
use Rattle.fapp_model.specs.declared.instance.Instance.{Instance}
use Rattle.fapp_model.specs.declared.triple.Triple.{Triple}
use Rattle.fapp_model.specs.Assignments.{violates}
use Rattle.fapp_model.specs.Levels.{levels_of}

-- the least level at which a count is 0: so many levels, from 0 on, have a count above 0
unfoldable pub clear_level : ℕ → (ℕ → ℕ) → ℕ
clear_level levels count = prefix_len (λ level. nat_lt 0 (count level)) (range_with_len 0 levels)

-- the count one level below k; 0 where k is 0
abbrev pub count_below : (ℕ → ℕ) → ℕ → ℕ
count_below count zero = 0
count_below count (suc level) = count level

-- the sum of the counts of the first n levels
unfoldable pub sum_under : (ℕ → ℕ) → ℕ → ℕ
sum_under count n = sum_by count (range_with_len 0 n)

-- the cost by the number of violations at each level: the least level k without one, how many there
-- are one level below k, and their sum further below
unfoldable pub cost_by : ℕ → (ℕ → ℕ) → Triple
cost_by levels count = let k = clear_level levels count in
    record { k = k; v = count_below count k; s = sum_under count (k - 1) }

-- how many records are bad at a level
abbrev pub violations : Instance → List ℕ → ℕ → ℕ
violations instance plan level = count_by (violates instance plan level) instance.records

abbrev pub cost : Instance → List ℕ → Triple
cost instance plan = cost_by (levels_of instance) (violations instance plan)
