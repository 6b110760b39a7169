-- Tags by their codes.
use Rattle.std.proofs.Common.{◌≡◌, ℕ, ◌+◌, ◌≤◌, List, sym, subst, refl, arith}
use Rattle.fapp_model.specs.declared.instance.Instance.{Instance}
use Rattle.fapp_model.specs.declared.level.TheConstants.{MAX_LEVELS}
use Rattle.fapp_model.specs.declared.literal.Literal.{Literal}
use Rattle.fapp_model.specs.declared.tag.Tag.{Tag}
use Rattle.fapp_model.specs.declared.triple.Triple.{Triple}
use Rattle.fapp_model.specs.InstanceTags.{IsTagFor}
use Rattle.fapp_model.specs.Instances.{IsInstance}
use Rattle.fapp_model.specs.Levels.{levels_of}
use Rattle.fapp_model.specs.Tags.{IsTagOf, code_of, triple_from}
use Rattle.fapp_model.specs.search.Dead.{Dead}
use Rattle.fapp_model.specs.search.Implied.{Implied}
use Rattle.fapp_model.specs.search.Jobs.{target}
use Rattle.fapp_model.proofs.TagParts.{TagShape, limited, plain, shape, tag_from_limited, tag_from_plain}
use Rattle.dead_laws.proofs.DeadLower.{dead_lower}
use Rattle.dead_laws.proofs.ImpliedLemmas.{Implied-lower}
use Rattle.fapp_model.proofs.CodeOrder.{codes-at_most}
use Rattle.settle_laws.specs.Levels.{level_code}

pub code-back : (c : ℕ) → code_of (triple_from c) ≡ c
code-back c = omega arith

pub same-triple : (a b c d e f : ℕ) → a ≡ d → b ≡ e → c ≡ f → ◌≡◌ {A = Triple} (record { k = a; v = b; s = c }) (record { k = d; v = e; s = f })
same-triple a b c d e f p q r = cc

-- the target of a level as a triple
pub target-same : (level : ℕ) → triple_from (level_code (level + 1)) ≡ target level
target-same level = same-triple (triple_from (level_code (level + 1))).k (triple_from (level_code (level + 1))).v (triple_from (level_code (level + 1))).s (level + 1) 0 0 (omega arith) (omega arith) (omega arith)

-- a tag of at most a level's target is one of the instance
pub tag-small : (instance : Instance) (level : ℕ) (t : Tag) → level ≤ levels_of instance → t.code ≤ level_code (level + 1) → IsTagFor instance t
tag-small instance level t within most = by_shape (shape MAX_LEVELS (triple_from t.code) t.of_tag)
  where
    back : code_of (triple_from t.code) ≤ level_code (level + 1)
    back = omega (arith, code-back t.code)

    by_shape : TagShape MAX_LEVELS (triple_from t.code) → IsTagFor instance t
    by_shape (limited some low high v s) = tag_from_limited (levels_of instance) (triple_from t.code) some low (omega (arith, back)) v s
    by_shape (plain none nothing high) = tag_from_plain (levels_of instance) (triple_from t.code) none nothing (omega (arith, back))

pub target-tag : (instance : Instance) (level : ℕ) → level ≤ levels_of instance → IsTagOf instance (target level)
target-tag instance level l = tag_from_plain (levels_of instance) (target level) refl refl (omega arith)

pub dead-lower : (instance : Instance) (tag lower : ℕ) (literals : List Literal) → IsInstance instance → IsTagOf instance (triple_from tag) → IsTagOf instance (triple_from lower) → lower ≤ tag → Dead instance (triple_from tag) literals → Dead instance (triple_from lower) literals
dead-lower instance tag lower literals valid is_tag is_lower low dead = dead_lower instance (triple_from tag) (triple_from lower) literals valid is_tag is_lower (codes-at_most lower tag low) dead

pub implied-lower : (instance : Instance) (tag lower : ℕ) (literals : List Literal) → lower ≤ tag → Implied instance (triple_from tag) literals → Implied instance (triple_from lower) literals
implied-lower instance tag lower literals low h = Implied-lower instance (triple_from tag) (triple_from lower) literals (codes-at_most lower tag low) h

-- what is not dead at a tag up to the level's target is not dead at the target
pub alive-at : (instance : Instance) (level : ℕ) (t : Tag) (literals : List Literal) → IsInstance instance → level ≤ levels_of instance → t.code ≤ level_code (level + 1) → (Dead instance (triple_from t.code) literals → ⊥) → Dead instance (target level) literals → ⊥
alive-at instance level t literals valid within most alive dead =
    alive (dead-lower instance (level_code (level + 1)) t.code literals valid
    (subst (λ u. IsTagOf instance u) (sym (target-same level)) (target-tag instance level within)) (tag-small instance level t within most) most
    (subst (λ u. Dead instance u literals) (sym (target-same level)) dead))
