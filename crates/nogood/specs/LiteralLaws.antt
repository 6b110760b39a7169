-- What holds of the operations on lists of literals.
use Rattle.std.specs.Prelude.{◌≡◌, ◌↔◌, ℕ, List}
use Rattle.fapp_model.specs.declared.instance.Instance.{Instance}
use Rattle.fapp_model.specs.declared.literal.Literal.{Literal}
use Rattle.fapp_model.specs.search.Partials.{AreLiterals, Extends}
use Rattle.nogood.specs.Literals.{IsJoin, other_paths}

-- Two lists have one join. A plan has its literals exactly where it has those of both.
pub record JoinsAreBoth : Type 0 where
  pub one : (left right a b : List Literal) → IsJoin left right a → IsJoin left right b → a ≡ b
  pub both : (plan : List ℕ) (left right joined : List Literal) → IsJoin left right joined →
      Extends plan joined ↔ (Extends plan left × Extends plan right)

-- What is made of an instance's literals has literals of the instance.
pub record LiteralsStay : Type 0 where
  pub join : (instance : Instance) (left right joined : List Literal) → AreLiterals instance left →
      AreLiterals instance right → IsJoin left right joined → AreLiterals instance joined
  pub without : (instance : Instance) (path : ℕ) (literals : List Literal) →
      AreLiterals instance literals →
      AreLiterals instance (other_paths path literals)
