-- Which of the calls fail, by their numbers from 1.
use Rattle.std.specs.Prelude.{◌==◌, ◌&&◌, ◌+◌, ℕ, Bool, List, nat_lt}
use Rattle.std.specs.List.{list_any}
use Rattle.fapp_io.specs.Counts.{last_count}

-- after so many calls, the number of the next is in the list, and is a number of 64 bits
abbrev pub fails_next : List ℕ → ℕ → Bool
fails_next fails made = nat_lt made last_count && list_any (λ number. number == made + 1) fails
