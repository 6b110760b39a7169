use Rattle.std.proofs.Common.{◌≡◌, ℕ, List, [], ◌∷◌, ◌++◌, ap, ap₂, ◌∙◌}
use Rattle.std.specs.Prelude.{String, map, string_bytes}
use Rattle.std.specs.Global.{Global}
use Rattle.relay_cli.proofs.RelayWords.{same_letters}
use Rattle.relay_cli.proofs.options.behind_solve.Goals as goal

pub returns : goal.returns
returns c =
    let solve = c.in_ok-from_str.field-0 in
    let copies = c.in_ok-extend_from_slice.ensures.items in
    let first : c.push.new.self.items ≡ solve ∷ [] = c.in_ok-push.ensures.items ∙ ap (λ (all : List (String Global)). all ++ solve ∷ []) c.new-all.ensures.items in
    let whole : c.extend_from_slice.new.self.items ≡ solve ∷ copies.0 = copies.1 ∙ ap (λ (all : List (String Global)). all ++ copies.0) first in
    ap (map string_bytes) whole ∙ ap₂ (λ (word : List ℕ) (more : List (List ℕ)). word ∷ more) c.in_ok-from_str.ensures.ok (same_letters c.args.words.now copies.0 copies.2)
