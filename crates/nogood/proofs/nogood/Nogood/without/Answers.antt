use Rattle.std.proofs.Common.{◌≡◌, ◌<◌, not, eqb, rules, ap, sym, ◌∙◌, subst}
use Rattle.std.proofs.lemmas.Fn.{filter_same}
use Rattle.std.proofs.lemmas.List.Kept.{AllPairs-filter}
use Rattle.nogood.specs.Literals.{IsAscending, other_paths}
use Rattle.nogood.proofs.nogood.Nogood.without.Goals as goal

-- what `retain` left
kept : (c : goal.After-from_vec) → c.from_vec.result ≡ other_paths c.args.path c.args.self.now
kept c = c.from_vec.ensures
    ∙ (filter_same _ (λ a. not (eqb a.path c.args.path)) _ (λ x b f' k. search rules) _ _ c.retain.ensures.filtered
    ∙ ap (other_paths c.args.path) (c.in_ok-literals.ensures.items ∙ c.lits.ensures.value))

pub invariant_of-result : goal.invariant_of-result
invariant_of-result c =
    let ascending : IsAscending c.args.self.now = subst IsAscending c.lits.ensures.value c.lits.ensures.ascending in
    subst IsAscending (sym (kept c)) (AllPairs-filter (λ a b. a.path < b.path) (λ a. not (eqb a.path c.args.path)) c.args.self.now ascending)

pub returns : goal.returns
returns c = kept c
