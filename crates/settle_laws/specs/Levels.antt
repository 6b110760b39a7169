-- The tags of levels.
use Rattle.std.specs.Prelude.{ℕ, ◌+◌, min}
use Rattle.fapp_model.specs.Tags.{code_of}

-- (level, 0, 0) as a code
abbrev pub level_code : ℕ → ℕ
level_code level = code_of (record { k = level; v = 0; s = 0 })

-- the tag at which a prefix of a job is judged where the bound told so much
abbrev pub target_code : ℕ → ℕ → ℕ
target_code level told = min told (level_code (level + 1))
