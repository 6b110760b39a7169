-- What a join of literals has, and no other list has.
use Rattle.std.proofs.Common.{◌≡◌, ◌⊎◌, ◌↔◌, ℕ, ◌<◌, not, eqb, List, slice_index, Contains, All, ⊎_elim, arith}
use Rattle.std.proofs.lemmas.List.Elements.{All-contains, All-filter}
use Rattle.std.proofs.lemmas.List.Kept.{AllPairs-filter}
use Rattle.fapp_model.specs.declared.instance.Instance.{Instance}
use Rattle.fapp_model.specs.declared.literal.Literal.{Literal}
use Rattle.fapp_model.specs.search.Partials.{AreLiterals, Extends, IsLiteral}
use Rattle.fapp_model.proofs.Members.{All-from_members}
use Rattle.fapp_model.proofs.InOrder.{same_members}
use Rattle.nogood.specs.Literals.{IsJoin, other_paths}

-- what holds of the members of both lists holds of those of their join
pub All-join : (P : Literal → Type 0) (left right joined : List Literal) → IsJoin left right joined → All P left → All P right → All P joined
All-join P left right joined h l r = All-from_members P joined (λ a m. ⊎_elim
    (λ m. All-contains P left a l m)
    (λ m. All-contains P right a r m)
    (All-contains (λ a. Contains left a ⊎ Contains right a) joined a h.only m))

-- a member of a join is one of every list that has all of both
into : (left right a b : List Literal) → IsJoin left right a → IsJoin left right b → (x : Literal) → Contains a x → Contains b x
into left right a b h k x m = All-contains (Contains b) a x (All-join (Contains b) left right a h k.has_left k.has_right) m

pub one_join : (left right a b : List Literal) → IsJoin left right a → IsJoin left right b → a ≡ b
one_join left right a b h k =
    same_members (λ x y. x.path < y.path) (λ x y l m. absurd (omega arith)) a b h.ascending k.ascending
    (into left right a b h k) (into left right b a k h)

pub extends_both : (plan : List ℕ) (left right joined : List Literal) → IsJoin left right joined → Extends plan joined ↔ (Extends plan left × Extends plan right)
extends_both plan left right joined h =
    let Has : Literal → Type 0 = λ a. slice_index plan a.path ≡ a.choice in (
      λ e. (
        All-from_members Has left (λ a m. All-contains Has joined a e (All-contains (Contains joined) left a h.has_left m)),
        All-from_members Has right (λ a m. All-contains Has joined a e (All-contains (Contains joined) right a h.has_right m)),
      ),
      λ e. All-join Has left right joined h e.0 e.1,
    )

pub join_stays : (instance : Instance) (left right joined : List Literal) → AreLiterals instance left → AreLiterals instance right → IsJoin left right joined → AreLiterals instance joined
join_stays instance left right joined l r h = record {
  in_range = All-join (IsLiteral instance) left right joined h l.in_range r.in_range;
  ascending = h.ascending;
}

pub without_stays : (instance : Instance) (path : ℕ) (literals : List Literal) → AreLiterals instance literals → AreLiterals instance (other_paths path literals)
without_stays instance path literals h = record {
  in_range = All-filter (λ a. not (eqb a.path path)) (IsLiteral instance) literals h.in_range;
  ascending = AllPairs-filter (λ a b. a.path < b.path) (λ a. not (eqb a.path path)) literals h.ascending;
}
