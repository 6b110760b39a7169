use Rattle.std.proofs.Common.{◌∷◌, map, string_bytes, codes, ap, ◌∙◌, sym, rules, refl}
use Rattle.std.specs.Prelude.{option_map}
use Rattle.clap.specs.Words.{rows_of, found_of}
use Rattle.clap.proofs.WalkLemmas.{first_value-rows}
use Rattle.fapp_words.proofs.CheckLemmas.{check_read, check_found, not_workers}
use Rattle.fapp_words.proofs.reading.check_options.Goals as goal

pub returns-then-not-is_at_most_workers : goal.returns-then-not-is_at_most_workers
returns-then-not-is_at_most_workers c = λ options promised.
    not_workers (map string_bytes c.args.words.now) (map string_bytes c.in_ok-first.options.now) (string_bytes c.in_ok-first.first.now) options
    (ap (map string_bytes) c.in_ok-first.ensures.cases.0) (sym c.if-not-is_at_most_workers.ensures) promised

pub returns-in-Some : goal.returns-in-Some
returns-in-Some c =
    let found = found_of c.in-Some.found.now in
    let first = c.if-not-is_word.ensures.0 refl in
    rw c.check_in.ensures (check_read (map string_bytes c.args.words.now) (rows_of found) _
    (c.in-Some.ensures.rows ∙ ap (option_map (λ p. p.1)) c.requires.found) (c.get_str.ensures ∙ first_value-rows found (codes "workers"))
    (map string_bytes c.in_ok-first.options.now) (ap (map string_bytes) c.in_ok-first.ensures.cases.0 ∙ ap (λ x. x ∷ map string_bytes c.in_ok-first.options.now) first) (search rules))

pub returns-in-None : goal.returns-in-None
returns-in-None c = λ options promised. check_found (map string_bytes c.args.words.now) options promised (c.in-None.ensures.rows ∙ ap (option_map (λ p. p.1)) c.requires.found)
