-- Lines whose cites have the same numbers are the same.
use Rattle.std.proofs.Common.{◌≡◌, ℕ, false, List, [], ◌∷◌, map, refl, ap, ◌∙◌, Contains}
use Rattle.fapp_model.specs.declared.literal.Literal.{Literal}
use Rattle.fapp_model.specs.declared.tag.Tag.{Tag}
use Rattle.fapp_model.proofs.Members.{at_front, behind, in-map}
use Rattle.cert_lines.specs.declared.answer.Child.{Child}
use Rattle.cert_lines.specs.declared.answer.Line.{Line}
use Rattle.cert_lines.specs.declared.answer.Rule.{Rule}
use Rattle.cert_lines.specs.declared.answer.Rule.TheVariants.{Branch, Count, Delete}
use Rattle.cert_lines.specs.Renumbering.{cited, renumbered, renumbered_child, renumbered_rule}
use Rattle.cert_lines.specs.acceptance.Deleted.{is_delete}

pub same-map : {X Y : Type 0} (f g : X → Y) (xs : List X) → ((x : X) → Contains xs x → f x ≡ g x) → map f xs ≡ map g xs
same-map f g [] h = refl
same-map f g (x ∷ xs) h = ap (λ y. y ∷ map f xs) (h x (at_front x xs)) ∙ ap (λ ys. g x ∷ ys) (same-map f g xs (λ y m. h y (behind x xs y m)))

child_of : ℕ → ℕ → Child
child_of choice cite = record { choice = choice; cite = cite }

line_of : Tag → List Literal → Rule → Line
line_of tag lits rule = record { tag = tag; lits = lits; rule = rule }

module _ (f g : ℕ → ℕ) where
  same-child : (child : Child) → f child.cite ≡ g child.cite → renumbered_child f child ≡ renumbered_child g child
  unfolding child_of
  same-child child h = ap (child_of child.choice) h

  same-rule : (rule : Rule) → is_delete rule ≡ false → ((n : ℕ) → Contains (cited rule) n → f n ≡ g n) → renumbered_rule f rule ≡ renumbered_rule g rule
  same-rule (Count cites) plain h = ap Count (same-map f g cites h)
  same-rule (Branch path children) plain h = ap (Branch path)
      (same-map (renumbered_child f) (renumbered_child g) children (λ child m. same-child child (h child.cite (in-map (λ (c : Child). c.cite) children child m))))
  same-rule (Delete cites) plain h = absurd (cc)

  pub same-line : (line : Line) → is_delete line.rule ≡ false → ((n : ℕ) → Contains (cited line.rule) n → f n ≡ g n) → renumbered f line ≡ renumbered g line
  unfolding line_of
  same-line line plain h = ap (line_of line.tag line.lits) (same-rule line.rule plain h)
