-- Words of the contracts: what a seat knows, and which word it belongs to.
use Rattle.std.specs.Prelude.{◌≡◌, ◌⊎◌, ℕ, ◌≤◌, List, [], All, Contains, sum_by}
use Rattle.best_word.specs.declared.view.BestView.{BestView}
use Rattle.best_word.specs.declared.seat.BestSeat.{BestSeat}
use Rattle.best_word.specs.declared.seat.BestWord.{BestWord}
use Rattle.best_word.specs.Bound.{Words, word_of, IsCodeFor, IsSeatOffer, is_spent, top_code}
use Rattle.seat_laws.specs.Shares.{EachLive}

abbrev pub view_of : BestSeat → BestView
view_of seat = seat.seat.me.0

-- the seat was made from this word
abbrev pub IsSeatOf : BestWord → BestSeat → Type 0
IsSeatOf word seat = seat.seat.table_id ≡ word.table.shared.table_id

-- both seats were made from one word
abbrev pub IsSameSeat : BestSeat → BestSeat → Type 0
IsSameSeat seat other = seat.seat.table_id ≡ other.seat.table_id

-- a code that a seat offered, or the top one; and at most all that it read or offered
pub record IsLeastOf (v : BestView) (n : ℕ) : Type 0 where
  pub tag : IsCodeFor v.levels n
  pub from : (n ≡ top_code v.levels) ⊎ Contains v.offers n
  pub least : n ≤ v.least
  pub offers : All (λ m. n ≤ m) v.offers
  pub found : All (λ m. n ≤ m) v.found

-- The word is the least that the live views offered, or the top code where none did.
pub record IsLeastOffer (levels : ℕ) (s : Words) : Type 0 where
  pub from : (word_of s ≡ top_code levels) ⊎ IsSeatOffer s.views (word_of s)
  pub least : EachLive is_spent (λ v. All (λ m. word_of s ≤ m) v.offers) s.views

-- a seat that has offered and found nothing, for costs of an instance with so many levels
pub record IsNewSeat (levels : ℕ) (v : BestView) : Type 0 where
  pub same_levels : v.levels ≡ levels
  pub top : v.least ≡ top_code levels
  pub offers : v.offers ≡ []
  pub found : v.found ≡ []

-- all shares together
abbrev pub shares_of : List BestSeat → ℕ
shares_of seats = sum_by (λ seat. (view_of seat).share) seats

-- some seat offered it
pub record IsOfferedByOne (seats : List BestSeat) (n : ℕ) : Type 0 where
  pub seat : BestSeat
  pub among : Contains seats seat
  pub offered : Contains (view_of seat).offers n

-- the top code of a seat's levels
pub record IsTopOfOne (seats : List BestSeat) (n : ℕ) : Type 0 where
  pub seat : BestSeat
  pub among : Contains seats seat
  pub top : n ≡ top_code (view_of seat).levels

-- a code that one of the seats offered, or the top one; and at most all that each of them read or
-- offered
pub record IsLeastOfAll (seats : List BestSeat) (n : ℕ) : Type 0 where
  pub from : IsTopOfOne seats n ⊎ IsOfferedByOne seats n
  pub least : All (λ seat. n ≤ (view_of seat).least) seats
  pub offers : All (λ seat. All (λ m. n ≤ m) (view_of seat).offers) seats
  pub found : All (λ seat. All (λ m. n ≤ m) (view_of seat).found) seats
