-- The word of the least cost, and what the seats know of it.
use Rattle.std.specs.Prelude.{◌≡◌, ◌⊎◌, ℕ, ◌+◌, ◌-◌, ◌/◌, ◌≤◌, Bool, true, false, List, [], ◌∷◌, ◌++◌, length, slice_index, min, All, Contains, IsTrue}
use Rattle.atomic_table.specs.Table.{State}
use Rattle.best_word.specs.declared.view.BestView.{BestView}
use Rattle.fapp_model.specs.Tags.{code_of, is_code}
use Rattle.seat_laws.specs.declared.TheConstants.{WHOLE_SHARE}
use Rattle.seat_laws.specs.Shares.{EachLive, IsShared, SomeLive}

abbrev pub Words : Type 0
Words = State (Unit {0}) BestView

abbrev pub word_of : Words → ℕ
word_of s = slice_index s.words 0

-- the code of the tag above the last level, below which every feasible assignment costs
abbrev pub top_code : ℕ → ℕ
top_code levels = code_of (record { k = levels + 1; v = 0; s = 0 })

-- the code of a tag of an instance with so many levels
pub record IsCodeFor (levels code : ℕ) : Type 0 where
  pub tag : IsTrue (is_code code)
  pub most : code ≤ top_code levels

abbrev pub is_spent : BestView → Bool
is_spent v = v.spent

abbrev pub share_of : BestView → ℕ
share_of v = v.share

-- what the word is to a seat: at most the least that it read or offered, which is at most each
-- offer and each word found
pub record Knows (levels word : ℕ) (v : BestView) : Type 0 where
  pub same_levels : v.levels ≡ levels
  pub below : word ≤ v.least
  pub most : v.least ≤ top_code levels
  pub offers : All (λ n. v.least ≤ n) v.offers
  pub found : All (λ n. v.least ≤ n) v.found

-- some seat has offered it
abbrev pub IsSeatOffer : List BestView → ℕ → Type 0
IsSeatOffer views n = SomeLive is_spent (λ v. Contains v.offers n) views

-- what holds between any two steps: the word is a tag, offered or the first one, and no more than
-- what each seat knows
pub record IsBestWord (levels : ℕ) (s : Words) : Type 0 where
  pub one : length s.words ≡ 1
  pub tag : IsCodeFor levels (word_of s)
  pub offered : (word_of s ≡ top_code levels) ⊎ IsSeatOffer s.views (word_of s)
  pub known : EachLive is_spent (Knows levels (word_of s)) s.views
  pub shares : IsShared is_spent share_of WHOLE_SHARE s.views

-- the view of the seat that is there first
abbrev pub first_view : ℕ → BestView
first_view levels =
    record {
      levels = levels;
      spent = false;
      share = WHOLE_SHARE;
      least = top_code levels;
      offers = [];
      found = [];
    }

-- the view of a seat that was joined into another
abbrev pub spent_view : BestView
spent_view = record { levels = 0; spent = true; share = 0; least = 0; offers = []; found = [] }

-- what a seat keeps, and what a new one gets, at a split
abbrev pub kept_half : BestView → BestView
kept_half v =
    record {
      levels = v.levels;
      spent = false;
      share = v.share - v.share / 2;
      least = v.least;
      offers = v.offers;
      found = v.found;
    }

abbrev pub given_half : BestView → BestView
given_half v =
    record {
      levels = v.levels;
      spent = false;
      share = v.share / 2;
      least = v.least;
      offers = [];
      found = [];
    }

-- what a seat knows after another was joined into it
abbrev pub after_join : BestView → BestView → BestView
after_join v w =
    record {
      levels = v.levels;
      spent = false;
      share = v.share + w.share;
      least = min v.least w.least;
      offers = v.offers ++ w.offers;
      found = v.found ++ w.found;
    }

-- what it knows after a load found n
abbrev pub after_load : BestView → ℕ → BestView
after_load v n =
    record {
      levels = v.levels;
      spent = false;
      share = v.share;
      least = n;
      offers = v.offers;
      found = v.found ++ n ∷ [];
    }

-- after an offer of k found n
abbrev pub after_offer : BestView → ℕ → ℕ → BestView
after_offer v k n =
    record {
      levels = v.levels;
      spent = false;
      share = v.share;
      least = min n k;
      offers = v.offers ++ k ∷ [];
      found = v.found ++ n ∷ [];
    }
