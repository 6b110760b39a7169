-- What old lines claim already: the tags of their root lines.
use Rattle.std.specs.Prelude.{ℕ, Bool, false, nat_le, List, Option, Some, None}
use Rattle.fapp_model.specs.declared.tag.Tag.{Tag}
use Rattle.cert_lines.specs.declared.answer.Line.{Line}
use Rattle.cert_lines.specs.acceptance.RootFaults.{root_tag}

-- the code of a tag, or 0 where there is none
abbrev pub code_or_zero : Option Tag → ℕ
code_or_zero None = 0
code_or_zero (Some t) = t.code

-- the code of the greatest tag of a root line, or 0 where there is no root line
abbrev pub old_root : List Line → ℕ
old_root old = code_or_zero (root_tag old)

-- a tag is found that is at least this one
abbrev pub is_enough : Tag → Option Tag → Bool
is_enough t None = false
is_enough t (Some u) = nat_le t.code u.code

-- a root line has at least this tag
abbrev pub is_rooted : Tag → List Line → Bool
is_rooted t old = is_enough t (root_tag old)
