-- What a holder of shared rows knows, and what its calls do.
use Rattle.std.specs.Prelude.{◌≡◌, ℕ, ◌<◌, ◌≤◌, Bool, true, false, List, [], ◌∷◌, ◌++◌, length, All, Contains, Option, Some, None}
use Rattle.fapp_model.specs.declared.instance.Instance.{Instance}
use Rattle.fapp_model.specs.declared.literal.Literal.{Literal}
use Rattle.fapp_model.specs.Tags.{IsTagOf, triple_from}
use Rattle.fapp_model.specs.search.Implied.{Implied}
use Rattle.fapp_model.specs.search.Partials.{AreLiterals}
use Rattle.nogood.specs.declared.row.Row.{Row}
use Rattle.nogood.specs.declared.row.Published.{Published}
use Rattle.nogood.specs.declared.row.Published.TheVariants.{Home, Full, Busy, TooLong}
use Rattle.nogood.specs.Partials.{GivesChoice}
use Rattle.nogood.specs.Rows.{row_literals}
use Rattle.search_log.specs.Contents.{Content, KnownRow, known_row}
use Rattle.search_log.specs.declared.shared.Cite.{Cite}

-- the rows that were copied and those that were published, whether offers are taken, and how many
-- were refused
pub record SharedState : Type 0 where
  pub copied : List KnownRow
  pub published : List KnownRow
  pub takes : Bool
  pub refusals : ℕ

abbrev pub known : SharedState → List KnownRow
known state = state.copied ++ state.published

-- one number has one content
abbrev pub HaveOneContent : List KnownRow → Type 0
HaveOneContent rows =
    (a b : KnownRow) → Contains rows a → Contains rows b → a.number ≡ b.number → a ≡ b

abbrev pub row_content : Row → Content
row_content row = record { tag = row.tag.code; lits = row_literals row }

-- a content's literals lie within a part, at a tag of at least the target
pub record FitsPart (part : List (Option ℕ)) (target : ℕ) (content : Content) : Type 0 where
  pub within : All (GivesChoice part) content.lits
  pub reaches : target ≤ content.tag

-- a copied row that fits; or none that was copied fits
abbrev pub Finds : List KnownRow → List (Option ℕ) → ℕ → Option Cite → Type 0
Finds copied part target (Some cite) =
    Contains copied (known_row cite.row (row_content cite.content))
    × FitsPart part target (row_content cite.content)
Finds copied part target None = All (λ row. FitsPart part target row.content → ⊥) copied

-- A look-up may copy rows, and has then copied all that were published. It publishes none.
pub record LooksUp (old new : SharedState) (part : List (Option ℕ)) (target : ℕ)
    (answer : Option Cite) : Type 0 where
  pub kept : All (Contains new.copied) old.copied
  pub brought : All (Contains new.copied) old.published
  pub published : new.published ≡ old.published
  pub takes : new.takes ≡ old.takes
  pub refusals : old.refusals ≤ new.refusals
  pub finds : Finds new.copied part target answer

-- literals of the instance, ascending, that are implied at the tag
pub record IsServedContent (instance : Instance) (content : Content) : Type 0 where
  pub lits : AreLiterals instance content.lits
  pub implied : Implied instance (triple_from content.tag) content.lits

-- what was looked up is so
abbrev pub IsCiteOf : Instance → Option Cite → Type 0
IsCiteOf instance (Some cite) = IsServedContent instance (row_content cite.content)
IsCiteOf instance None = Unit {0}

-- what may be offered: such literals, at a tag of the instance above (0, 0, 0)
pub record IsOffer (instance : Instance) (lits : List Literal) (tag : ℕ) : Type 0 where
  pub above : 0 < tag
  pub own : IsTagOf instance (triple_from tag)
  pub served : IsServedContent instance (record { tag = tag; lits = lits })

-- no row was published, and the literals are as few as a row can have
abbrev pub IsRefused : SharedState → SharedState → List Literal → Type 0
IsRefused old new lits = (new.published ≡ old.published) × (length lits ≤ 8)

-- What an offer answers. Home: it is published, as a row above all others. Full and Busy: where
-- offers are taken a refusal was counted; where they are not, the answer is Full with the number of
-- rows. TooLong: no row can have it.
abbrev pub AnswersOffer : SharedState → SharedState → List Literal → ℕ → Published → Type 0
AnswersOffer old new lits tag (Home row) =
    (new.published ≡ old.published ++ known_row row (record { tag = tag; lits = lits }) ∷ [])
    × (length lits ≤ 8) × (old.takes ≡ true) × All (λ other. other.number < row) (known old)
AnswersOffer old new lits tag (Full n) =
    IsRefused old new lits × (old.takes ≡ true → old.refusals < new.refusals)
    × (old.takes ≡ false → n ≡ length (known old))
AnswersOffer old new lits tag (Busy read seen) =
    IsRefused old new lits × (old.takes ≡ true) × (old.refusals < new.refusals)
AnswersOffer old new lits tag TooLong = (new.published ≡ old.published) × (8 < length lits)

-- An offer copies nothing.
pub record OffersRow (old new : SharedState) (lits : List Literal) (tag : ℕ)
    (answer : Published) : Type 0 where
  pub copied : new.copied ≡ old.copied
  pub takes : new.takes ≡ old.takes
  pub refusals : old.refusals ≤ new.refusals
  pub answers : AnswersOffer old new lits tag answer
