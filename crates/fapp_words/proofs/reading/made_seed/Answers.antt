use Rattle.std.proofs.Common.{◌≡◌, [], ◌∷◌, map, string_bytes, codes, ap, ◌∙◌, rules, refl}
use Rattle.std.specs.Prelude.{option_map}
use Rattle.clap.specs.Words.{rows_of, found_of}
use Rattle.clap.proofs.WalkLemmas.{first_value-rows}
use Rattle.fapp_words.proofs.RequestLemmas.{seed_read, seed_found, three}
use Rattle.fapp_words.specs.Commands.{maker_name}
use Rattle.fapp_words.proofs.reading.made_seed.Goals as goal

pub returns-in-Some : goal.returns-in-Some
returns-in-Some c =
    let found = found_of c.in-Some.found.now in
    let all = three c.args.words.now c.index-words-0.result c.index-words-1.result c.index-words-2.result (search rules) c.index-words-0.is c.index-words-1.is c.index-words-2.is in
    let spelled : map string_bytes c.args.words.now ≡ maker_name c.args.maker ∷ string_bytes c.index-words-1.result ∷ string_bytes c.index-words-2.result ∷ [] =
    ap (map string_bytes) all ∙ ap (λ x. x ∷ string_bytes c.index-words-1.result ∷ string_bytes c.index-words-2.result ∷ []) (c.if-not-is_word.ensures.0 refl ∙ c.name.ensures) in
    rw c.seed_in.ensures (seed_read c.args.maker (map string_bytes c.args.words.now) (string_bytes c.index-words-1.result) (string_bytes c.index-words-2.result) spelled (search rules) (search rules) (rows_of found) _ _
    (c.in-Some.ensures.rows ∙ ap (option_map (λ p. p.1)) c.requires.found)
    (c.get_str.ensures ∙ first_value-rows found (codes "number")) (c.get_str-in-Some.ensures ∙ first_value-rows found (codes "paths")))

pub returns-in-None : goal.returns-in-None
returns-in-None c = λ seed promised. seed_found c.args.maker (map string_bytes c.args.words.now) seed promised (c.in-None.ensures.rows ∙ ap (option_map (λ p. p.1)) c.requires.found)
