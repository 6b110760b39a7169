-- One and minus one in fields.
use Rattle.std.specs.Prelude.{◌≡◌, ◌⊎◌, List, ℕ, ℤ, pos, negsuc, codes, Option, Some, None, if◌then◌else◌}
use Rattle.std.specs.Str.{bytes_eq}

-- minus one or one
abbrev pub IsSign : ℤ → Type 0
IsSign z = (z ≡ negsuc 0) ⊎ (z ≡ pos 1)

-- the sign that a field is, in decimal
abbrev pub sign_of : List ℕ → Option ℤ
sign_of field =
    if bytes_eq field (codes "1") then Some (pos 1)
    else (if bytes_eq field (codes "-1") then Some (negsuc 0) else None)
