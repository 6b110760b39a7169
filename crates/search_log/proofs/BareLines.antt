-- A Count line that cites nothing has literals that are dead with the arcs alone.
use Rattle.std.proofs.Common.{◌≡◌, ℕ, false, List, [], refl, sym, ◌∙◌, inl, inr, ◌∷◌}
use Rattle.std.proofs.lemmas.Bool.{true≢false}
use Rattle.fapp_model.specs.declared.instance.Instance.{Instance}
use Rattle.fapp_model.specs.declared.literal.Literal.{Literal}
use Rattle.fapp_model.specs.Tags.{mode_level, triple_from}
use Rattle.fapp_model.specs.search.Arcs.{OutsideArc}
use Rattle.fapp_model.specs.search.Dead as Dead
use Rattle.fapp_model.specs.search.Dead.{Dead, DeadBy, Remains, clash, outside_literal, no_choice_left, over_limit}
use Rattle.fapp_model.specs.search.Partials.{literal}
use Rattle.search_log.specs.Contents.{Content}
use Rattle.search_log.specs.GoodLines.{IsCount, IsOutside, is_ruled_out}
use Rattle.std.specs.List.{AllZip}

-- where nothing is cited, what is outside or ruled out is outside
pub left-out-dead : (instance : Instance) (tag : ℕ) (literals : List Literal) (contents : List Content) → contents ≡ [] → IsCount instance tag literals contents → Dead instance (triple_from tag) literals
left-out-dead instance tag literals contents none count = go count.dead
  where
    ruled-none : (a : Literal) (cs : List Content) → cs ≡ [] → is_ruled_out cs literals a ≡ false
    ruled-none a cs e = rw e refl

    outside : (a : Literal) → IsOutside instance tag contents literals a → OutsideArc instance (mode_level (triple_from tag)) a
    outside a (inl out) = out
    outside a (inr ruled) = absurd (true≢false (sym ruled ∙ ruled-none a contents none))

    remains : (level : ℕ) (a : Literal) → Remains (OutsideArc instance (mode_level (triple_from tag))) instance level literals a → Remains (IsOutside instance tag contents literals) instance level literals a
    remains level a r = record { kept = λ out. r.kept (outside a out); free = r.free }

    remained : (level : ℕ) (a : Literal) → Remains (IsOutside instance tag contents literals) instance level literals a → Remains (OutsideArc instance (mode_level (triple_from tag))) instance level literals a
    remained level a r = record { kept = λ out. r.kept (inl out); free = r.free }

    go : DeadBy (IsOutside instance tag contents literals) instance (triple_from tag) literals → Dead instance (triple_from tag) literals
    go (Dead.least e) = Dead.least e
    go (clash a b first second bad) = clash a b first second bad
    go (outside_literal a m out) = outside_literal a m (outside a out)
    go (no_choice_left path small free each) = no_choice_left path small free (λ index below. elim (each index below) [
      | inl out ↦ inl (outside (literal path index) out)
      | inr bad ↦ inr bad
    ])
    go (over_limit some fewest each most) = over_limit some fewest (λ path small free. let l = each path small free in record {
      index = l.index;
      in_range = l.in_range;
      remains = remained (mode_level (triple_from tag)) (literal path l.index) l.remains;
      reached = l.reached;
      least = λ other below r. l.least other below (remains (mode_level (triple_from tag)) (literal path other) r);
    }) most

-- beside nothing stands nothing
pub zip-none : {X Y : Type 0} (R : X → Y → Type 0) (xs : List X) (ys : List Y) → AllZip R xs ys → xs ≡ [] → ys ≡ []
zip-none R [] [] h e = refl
zip-none R [] (z ∷ ys) h e = absurd h
zip-none R (x ∷ xs) ys h e = absurd (cc)
