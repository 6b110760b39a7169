-- Tags: the triples at which partial assignments are judged.
use Rattle.std.specs.Prelude.{ℕ, ◌+◌, ◌-◌, ◌*◌, ◌/◌, ◌%◌, Bool, ◌&&◌, ◌==◌, nat_lt, nat_le, IsTrue, if◌then◌else◌}
use Rattle.fapp_model.specs.declared.instance.Instance.{Instance}
use Rattle.fapp_model.specs.declared.triple.Triple.{Triple}
use Rattle.fapp_model.specs.declared.limits.TheConstants.{V_SPAN, S_SPAN}
use Rattle.fapp_model.specs.declared.level.TheConstants.{MAX_LEVELS}
use Rattle.fapp_model.specs.Levels.{levels_of}

-- a triple as one number
abbrev pub code_of : Triple → ℕ
code_of t = (t.k * V_SPAN + t.v) * S_SPAN + t.s

-- the triple that a number stands for
abbrev pub triple_from : ℕ → Triple
triple_from code =
    record { k = code / S_SPAN / V_SPAN; v = code / S_SPAN % V_SPAN; s = code % S_SPAN }

-- a triple limits the violations of the levels below its own
abbrev pub has_limit : Triple → Bool
has_limit t = nat_lt 0 t.v

-- a tag for so many levels: a level from 1 on with at least one violation below it, or a level
-- alone, up to one past the last
abbrev pub is_tag : ℕ → Triple → Bool
is_tag levels t = if has_limit t
    then (nat_lt 0 t.k && nat_le t.k levels) && (nat_lt t.v V_SPAN && nat_lt t.s S_SPAN)
    else (t.s == 0) && nat_le t.k (levels + 1)

-- the code of a tag, of an instance with as many levels as there may be
abbrev pub is_code : ℕ → Bool
is_code code = is_tag MAX_LEVELS (triple_from code)

-- a tag of an instance
abbrev pub IsTagOf : Instance → Triple → Type 0
IsTagOf instance t = IsTrue (is_tag (levels_of instance) t)

-- (0, 0, 0), below which nothing costs
abbrev pub least_tag : Triple
least_tag = record { k = 0; v = 0; s = 0 }

-- the tag below which every feasible assignment costs
abbrev pub top_tag : Instance → Triple
top_tag instance = record { k = levels_of instance + 1; v = 0; s = 0 }

-- the level at which an assignment that costs less than the tag has no violation
abbrev pub mode_level : Triple → ℕ
mode_level t = if has_limit t then t.k else (t.k - 1)
