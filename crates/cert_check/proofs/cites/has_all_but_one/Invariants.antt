use Rattle.std.proofs.Common.{◌≡◌, ◌≤◌, ◌||◌, not, true, take, count_by}
use Rattle.std.specs.List.{list_all}
use Rattle.fapp_model.specs.search.Partials.{names}
use Rattle.cert_lines.specs.acceptance.Contained.{has}
use Rattle.cert_check.proofs.cites.has_all_but_one.Given as goal

-- the literals so far
abbrev pub invariant-loop-a : goal.invariant-loop-a
invariant-loop-a l = record {
  each : list_all (λ a. has l.literals a || not (names l.literals a.path)) (take l.a-index l.cited) ≡ true;
  counted : l.outside ≡ count_by (λ a. not (has l.literals a)) (take l.a-index l.cited);
  small : l.outside ≤ l.a-index;
}
