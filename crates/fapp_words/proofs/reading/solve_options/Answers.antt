use Rattle.std.proofs.Common.{◌∷◌, map, string_bytes, codes, ap, ◌∙◌, sym, rules, refl}
use Rattle.std.specs.Prelude.{option_map}
use Rattle.clap.specs.Words.{rows_of, found_of}
use Rattle.clap.proofs.WalkLemmas.{first_value-rows, one_text-rows}
use Rattle.fapp_words.proofs.ReadingLemmas.{options_read, not_formed, promised_found}
use Rattle.fapp_words.proofs.reading.solve_options.Goals as goal

pub returns-then-not-are_pieces : goal.returns-then-not-are_pieces
returns-then-not-are_pieces c = λ options promised.
    not_formed (map string_bytes c.args.words.now) (map string_bytes c.in_ok-first.options.now) (string_bytes c.in_ok-first.first.now) options
    (ap (map string_bytes) c.in_ok-first.ensures.cases.0) (sym c.if-not-are_pieces.ensures) promised

pub returns-in-Some : goal.returns-in-Some
returns-in-Some c =
    let found = found_of c.in-Some.found.now in
    let first = c.if-not-is_word.ensures.0 refl in
    rw c.options_in.ensures (options_read (map string_bytes c.args.words.now) (map string_bytes c.in_ok-first.options.now) (rows_of found) _ _ _ _ _ _
    (ap (map string_bytes) c.in_ok-first.ensures.cases.0 ∙ ap (λ x. x ∷ map string_bytes c.in_ok-first.options.now) first)
    (search rules) c.requires.taken (c.in-Some.ensures.rows ∙ ap (option_map (λ p. p.1)) c.requires.found)
    (c.get_str.ensures ∙ first_value-rows found (codes "workers")) (c.get_str-in-Some.ensures ∙ first_value-rows found (codes "fuel")) (c.get_str-in-Some-2.ensures ∙ first_value-rows found (codes "split")) (c.get_str-in-Some-3.ensures ∙ first_value-rows found (codes "pool")) (c.get_str-in-Some-4.ensures ∙ first_value-rows found (codes "cert"))
    (λ e. c.get_flag.ensures.value (one_text-rows found (codes "answer-only") ∙ e)) (λ e. c.get_flag.ensures.other (one_text-rows found (codes "answer-only") ∙ e)))

pub returns-in-None : goal.returns-in-None
returns-in-None c = λ options promised. promised_found (map string_bytes c.args.words.now) options promised (c.in-None.ensures.rows ∙ ap (option_map (λ p. p.1)) c.requires.found)
