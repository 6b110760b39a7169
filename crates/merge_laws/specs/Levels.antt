-- The plan's tree: a line for each list of choices of the first paths of the work order, the
-- longest lists first.
use Rattle.std.specs.Prelude.{ℕ, zero, suc, ◌+◌, ◌-◌, List, [], ◌∷◌, ◌++◌, length, map, flat_map}
use Rattle.std.specs.List.{range_with_len}
use Rattle.fapp_model.specs.declared.instance.Instance.{Instance}
use Rattle.fapp_model.specs.declared.literal.Literal.{Literal}
use Rattle.fapp_model.specs.declared.tag.Tag.{Tag}
use Rattle.fapp_model.specs.Assignments.{count_at}
use Rattle.fapp_model.specs.search.Partials.{literal}
use Rattle.cert_lines.specs.declared.answer.Child.{Child}
use Rattle.cert_lines.specs.declared.answer.Line.{Line}
use Rattle.cert_lines.specs.declared.answer.Rule.TheVariants.{Branch, Count}
use Rattle.fapp_plan.specs.Sorting.{by_path}

-- no cite, or one
abbrev pub cites_of : ℕ → List ℕ
cites_of zero = []
cites_of (suc n) = suc n ∷ []

-- the Count line of a prefix, which cites the line of a number, or nothing
abbrev pub prefix_line : Tag → List Literal → ℕ → Line
prefix_line t prefix number =
    record { tag = t; lits = by_path prefix; rule = Count (cites_of number) }

-- the Count line without literals and cites
abbrev pub root_line : Tag → Line
root_line t = record { tag = t; lits = []; rule = Count [] }

-- a Count line for each prefix, by the numbers of what settles them, from the prefix of a place on
abbrev pub emit_prefixes : Tag → (ℕ → ℕ) → ℕ → List (List Literal) → List Line → List Line
emit_prefixes t number place [] out = out
emit_prefixes t number place (prefix ∷ more) out =
    emit_prefixes t number (place + 1) more (out ++ prefix_line t prefix (number place) ∷ [])

-- children for all choices of a path, which cite lines one after another, from one on
abbrev pub children_from : Instance → ℕ → ℕ → List Child
children_from instance path next =
    map (λ index. record { choice = index; cite = next + index })
    (range_with_len 0 (count_at instance path))

abbrev pub level_line : Instance → Tag → ℕ → ℕ → List Literal → Line
level_line instance t path next literals =
    record {
      tag = t;
      lits = by_path literals;
      rule = Branch path (children_from instance path next);
    }

-- a Branch line on a path for each list, whose children cite the next lines
abbrev pub emit_level : Instance → Tag → ℕ → ℕ → List (List Literal) → List Line → List Line
emit_level instance t path next [] out = out
emit_level instance t path next (literals ∷ lists) out =
    emit_level instance t path (next + count_at instance path) lists
    (out ++ level_line instance t path next literals ∷ [])

-- the lists that are longer by a choice of a path
abbrev pub longer : Instance → ℕ → List Literal → List (List Literal)
longer instance path literals =
    map (λ index. literals ++ literal path index ∷ []) (range_with_len 0 (count_at instance path))

abbrev pub all_longer : Instance → ℕ → List (List Literal) → List (List Literal)
all_longer instance path lists = flat_map (longer instance path) lists

-- a Branch line on a path for each list, where the lines of those that are longer by a choice stand
-- at the end
abbrev pub emit_above : Instance → Tag → ℕ → List (List Literal) → List Line → List Line
emit_above instance t path lists out =
    emit_level instance t path (length out + 1 - length (all_longer instance path lists)) lists out

-- the tree along some paths behind some lists: first what is longer than these, then they
abbrev pub emit_tree : Instance → Tag → (ℕ → ℕ) → List ℕ → List (List Literal) → List Line →
    List Line
emit_tree instance t number [] lists out = emit_prefixes t number 0 lists out
emit_tree instance t number (path ∷ paths) lists out =
    emit_above instance t path lists (emit_tree instance t number paths
    (all_longer instance path lists) out)
