-- Lists in the midst of a line. Where an order is wanted, a step is given the least number that may
-- come.
use Rattle.std.specs.Prelude.{ℕ, zero, suc, ◌+◌, nat_lt, nat_le, List, [], ◌∷◌, length, Result, Ok}
use Rattle.fapp_model.specs.declared.instance.Instance.{Instance}
use Rattle.fapp_model.specs.declared.literal.Literal.{Literal}
use Rattle.fapp_model.specs.Assignments.{count_at}
use Rattle.cert_lines.specs.declared.answer.Child.{Child}
use Rattle.cert_lines.specs.declared.fault.CertCause.{CertCause}
use Rattle.cert_lines.specs.declared.fault.CertCause.TheVariants.{BadOrder, UnknownPath, UnknownChoice}
use Rattle.fapp_text.specs.Reading.{◌>>=◌, allowed}
use Rattle.cert_lines.specs.FieldReading.{number_at}

-- the least number that may come, and the fields that are left
abbrev pub State : Type 0
State = ℕ × List (List ℕ)

-- the position of a path
unfoldable pub position_at : Instance → List (List ℕ) → Result (ℕ × List (List ℕ)) CertCause
position_at instance fields = do
  path ← number_at fields
  allowed (nat_lt path.0 (length instance.paths)) UnknownPath path

-- the index of a choice of a path
unfoldable pub index_at : Instance → ℕ → List (List ℕ) → Result (ℕ × List (List ℕ)) CertCause
index_at instance path fields = do
  choice ← number_at fields
  allowed (nat_lt choice.0 (count_at instance path)) UnknownChoice choice

unfoldable pub literal_at : Instance → State → Result (Literal × State) CertCause
literal_at instance state = do
  found ← position_at instance state.1
  path ← allowed (nat_le state.0 found.0) BadOrder found
  choice ← index_at instance path.0 path.1
  Ok (record { path = path.0; choice = choice.0 }, (path.0 + 1, choice.1))

unfoldable pub cite_at : State → Result (ℕ × State) CertCause
cite_at state = do
  found ← number_at state.1
  cite ← allowed (nat_le state.0 found.0) BadOrder found
  Ok (cite.0, (cite.0 + 1, cite.1))

unfoldable pub child_at : Instance → ℕ → State → Result (Child × State) CertCause
child_at instance path state = do
  found ← index_at instance path state.1
  choice ← allowed (nat_le state.0 found.0) BadOrder found
  cite ← number_at choice.1
  Ok (record { choice = choice.0; cite = cite.0 }, (choice.0 + 1, cite.1))

-- so many steps, one after another
abbrev pub many : {A : Type 0} → (State → Result (A × State) CertCause) → ℕ → State →
    Result (List A × State) CertCause
many step zero s = Ok ([], s)
many step (suc n) s = do
  first ← step s
  others ← many step n first.1
  Ok (first.0 ∷ others.0, others.1)

-- so many elements, from left to right
abbrev pub counted : {A : Type 0} → (State → Result (A × State) CertCause) → ℕ → List (List ℕ) →
    Result (List A × List (List ℕ)) CertCause
counted step count fields = many step count (0, fields) >>= λ items. Ok (items.0, items.1.1)

-- how many there are, and each one
unfoldable pub list_at : {A : Type 0} → (State → Result (A × State) CertCause) → List (List ℕ) →
    Result (List A × List (List ℕ)) CertCause
list_at step fields = do
  count ← number_at fields
  counted step count.0 count.1
