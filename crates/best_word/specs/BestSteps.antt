-- What the steps on the word tell.
use Rattle.std.specs.Prelude.{◌≡◌, ℕ, ◌≤◌}
use Rattle.atomic_table.specs.Table.{Me, Step}
use Rattle.best_word.specs.declared.view.BestView.{BestView}
use Rattle.best_word.specs.Bound.{IsCodeFor, after_load, after_offer}
use Rattle.seat_laws.specs.declared.TheConstants.{WHOLE_SHARE}

-- a load found the code of a tag, no greater than what the seat knew
abbrev pub LoadsBest : Step (Unit {0}) → Me (Unit {0}) BestView → ℕ → Me (Unit {0}) BestView →
    Type 0
LoadsBest st me n me' =
    IsCodeFor me.0.levels n × (n ≤ me.0.least) × (me'.0 ≡ after_load me.0 n) × (me'.1 ≡ me.1)

-- so did the step that lowers the word to the code offered, where that is less
abbrev pub Lowers : Step (Unit {0}) → Me (Unit {0}) BestView → ℕ → Me (Unit {0}) BestView → Type 0
Lowers st me n me' =
    IsCodeFor me.0.levels n × (n ≤ me.0.least) × (me'.0 ≡ after_offer me.0 st.first n)
    × (me'.1 ≡ me.1)

-- a load that is made for the share alone: it is a part of the whole, and the view stays
abbrev pub HasPart : Step (Unit {0}) → Me (Unit {0}) BestView → ℕ → Me (Unit {0}) BestView → Type 0
HasPart st me n me' = (me.0.share ≤ WHOLE_SHARE) × (me' ≡ me)
