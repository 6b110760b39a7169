-- The parts of a judgement make up its test.
use Rattle.std.proofs.Common.{◌≡◌, ℕ, ◌+◌, Bool, true, false, not, ◌&&◌, ◌||◌, List, [], ◌∷◌, length, refl, ap, sym, ◌∙◌, Option, Some, None}
use Rattle.std.specs.List.{list_any, range_with_len}
use Rattle.fapp_model.specs.declared.instance.Instance.{Instance}
use Rattle.fapp_model.specs.declared.literal.Literal.{Literal}
use Rattle.fapp_model.specs.declared.triple.Triple.{Triple}
use Rattle.fapp_model.specs.search.Pairs.{Pair, limit_of}
use Rattle.fapp_model.specs.Tags.{has_limit, mode_level, triple_from}
use Rattle.fapp_model.specs.search.Weights.{bad_before, bad_further, inside, over_open, pair_with}
use Rattle.cert_lines.specs.acceptance.Judged.{has_clash, is_pair_at_most, is_stuck, judged_dead, least_pair, or_no_pair}
use Rattle.cert_check.specs.declared.exclusion.Scene.{Scene}
use Rattle.cert_check.specs.declared.weight.Weight.{Weight}
use Rattle.cert_check.specs.Scenes.{excluded_by}
use Rattle.cert_check.specs.Weighed.{IsOwn, IsWeighed, far_stuck, near_at, near_stuck, stuck_by, least_by}

split_test : (n s x y : Bool) → ((n && s || x) || (not n && s || y)) ≡ (s || (x || y))
split_test true true x y = refl
split_test true false x y = refl
split_test false true true y = refl
split_test false true false y = refl
split_test false false x y = refl

or-true : (b : Bool) → (b || true) ≡ true
or-true true = refl
or-true false = refl

-- the elements with a mark, and those without
any-split : {X : Type 0} (n s : X → Bool) (xs : List X) → (list_any (λ x. n x && s x) xs || list_any (λ x. not (n x) && s x) xs) ≡ list_any s xs
any-split n s [] = refl
any-split n s (x ∷ xs) = split_test (n x) (s x) (list_any (λ x. n x && s x) xs) (list_any (λ x. not (n x) && s x) xs) ∙ ap (λ b. s x || b) (any-split n s xs)

module _ (scene : Scene) (literals : List Literal) where
  abbrev tag : Triple
  tag = triple_from scene.tag.code

  abbrev instance : Instance
  instance = scene.instance.now

  -- the test at the scene's level
  abbrev pub over_by : Bool
  over_by = has_limit tag && is_pair_at_most (limit_of tag) (pair_with instance scene.level literals (least_by scene literals))

  abbrev pub any_stuck : Bool
  any_stuck = list_any (stuck_by scene literals) (range_with_len 0 (length instance.paths))

  pub test-by : scene.level ≡ mode_level tag → judged_dead (excluded_by scene literals) instance tag literals ≡ (has_clash instance scene.level literals || (list_any (excluded_by scene literals) literals || (any_stuck || over_by)))
  unfolding judged_dead
  test-by e = ap (λ (level : ℕ). has_clash instance level literals || (list_any (excluded_by scene literals) literals || (list_any (is_stuck (excluded_by scene literals) instance level literals) (range_with_len 0 (length instance.paths)) || (has_limit tag && is_pair_at_most (limit_of tag) (pair_with instance level literals (λ path. or_no_pair (least_pair (excluded_by scene literals) instance level literals path))))))) (sym e)

  module _ (e : scene.level ≡ mode_level tag) where
    abbrev dead : Bool
    dead = judged_dead (excluded_by scene literals) instance tag literals

    pub by-clash : has_clash instance scene.level literals ≡ true → true ≡ dead
    by-clash h = sym (test-by e ∙ ap (λ b. b || (list_any (excluded_by scene literals) literals || (any_stuck || over_by))) h)

    pub by-excluded : list_any (excluded_by scene literals) literals ≡ true → true ≡ dead
    by-excluded h = sym (test-by e ∙ (ap (λ b. has_clash instance scene.level literals || (b || (any_stuck || over_by))) h
        ∙ or-true (has_clash instance scene.level literals)))

    module _ (calm : has_clash instance scene.level literals ≡ false) where
      after-clash : dead ≡ (list_any (excluded_by scene literals) literals || (any_stuck || over_by))
      after-clash = test-by e ∙ ap (λ b. b || (list_any (excluded_by scene literals) literals || (any_stuck || over_by))) calm

      module _ (kept : list_any (excluded_by scene literals) literals ≡ false) (near : List Bool) where
        after-excluded : dead ≡ ((near_stuck scene literals near || far_stuck scene literals near) || over_by)
        after-excluded = after-clash ∙ (ap (λ b. b || (any_stuck || over_by)) kept
            ∙ ap (λ b. b || over_by) (sym (any-split (near_at near) (stuck_by scene literals) (range_with_len 0 (length instance.paths)))))

        pub by-near : near_stuck scene literals near ≡ true → true ≡ dead
        by-near h = sym (after-excluded ∙ ap (λ b. (b || far_stuck scene literals near) || over_by) h)

        module _ (loose : near_stuck scene literals near ≡ false) where
          after-near : dead ≡ (far_stuck scene literals near || over_by)
          after-near = after-excluded ∙ ap (λ b. (b || far_stuck scene literals near) || over_by) loose

          pub by-over : over_by ≡ true → true ≡ dead
          by-over h = sym (after-near ∙ (ap (λ b. far_stuck scene literals near || b) h ∙ or-true (far_stuck scene literals near)))

          pub by-far : over_by ≡ false → far_stuck scene literals near ≡ dead
          by-far h = sym (after-near ∙ (ap (λ b. far_stuck scene literals near || b) h ∙ or_false (far_stuck scene literals near)))
            where
              or_false : (b : Bool) → (b || false) ≡ b
              or_false true = refl
              or_false false = refl

      -- a tag without a limit asks for nothing more
      pub by-stuck : list_any (excluded_by scene literals) literals ≡ false → has_limit tag ≡ false → any_stuck ≡ dead
      by-stuck kept none = sym (after-clash ∙ (ap (λ b. b || (any_stuck || over_by)) kept
          ∙ (ap (λ b. any_stuck || (b && is_pair_at_most (limit_of tag) (pair_with instance scene.level literals (least_by scene literals)))) none ∙ or_false any_stuck)))
        where
          or_false : (b : Bool) → (b || false) ≡ b
          or_false true = refl
          or_false false = refl

-- some path is stuck, by the marked ones and by those without a mark
pub stuck-near : (scene : Scene) (literals : List Literal) (near : List Bool) → near_stuck scene literals near ≡ true → true ≡ list_any (stuck_by scene literals) (range_with_len 0 (length scene.instance.now.paths))
stuck-near scene literals near h =
    sym (sym (any-split (near_at near) (stuck_by scene literals) (range_with_len 0 (length scene.instance.now.paths))) ∙ ap (λ b. b || far_stuck scene literals near) h)

pub stuck-far : (scene : Scene) (literals : List Literal) (near : List Bool) → near_stuck scene literals near ≡ false → far_stuck scene literals near ≡ list_any (stuck_by scene literals) (range_with_len 0 (length scene.instance.now.paths))
stuck-far scene literals near h =
    sym (sym (any-split (near_at near) (stuck_by scene literals) (range_with_len 0 (length scene.instance.now.paths))) ∙ ap (λ b. b || far_stuck scene literals near) h)

abbrev pair : ℕ → ℕ → Pair
pair v s = record { v = v; s = s }

pair_same : (a b c d x y z w : ℕ) → a ≡ x → b ≡ y → c ≡ z → d ≡ w → pair (a + c) (b + d) ≡ pair (x + z) (y + w)
pair_same a b c d x y z w e f g h = rw (e, f, g, h) refl

-- the sum of both weights is the pair
pub whole-pair : (scene : Scene) (literals : List Literal) (own more : Weight) → own.v ≡ inside scene.instance.now (bad_before scene.level) literals → own.s ≡ inside scene.instance.now (bad_further scene.level) literals →
    more.v ≡ over_open scene.instance.now literals (λ path. (least_by scene literals path).v) → more.s ≡ over_open scene.instance.now literals (λ path. (least_by scene literals path).s) →
    pair (own.v + more.v) (own.s + more.s) ≡ pair_with scene.instance.now scene.level literals (least_by scene literals)
whole-pair scene literals own more a b c d = pair_same own.v own.s more.v more.s _ _ _ _ a b c d

pub own-none : (given : Instance) (level : ℕ) (literals : List Literal) (o : Option Weight) → IsOwn given level literals o → ((w : Weight) → o ≡ Some w → ⊥) → has_clash given level literals ≡ true
own-none given level literals None h not_some = h
own-none given level literals (Some w) h not_some = absurd (not_some w refl)

pub weighed-none : (scene : Scene) (literals : List Literal) (near : List Bool) (o : Option Weight) → IsWeighed scene literals near o → ((w : Weight) → o ≡ Some w → ⊥) → near_stuck scene literals near ≡ true
weighed-none scene literals near None h not_some = h
weighed-none scene literals near (Some w) h not_some = absurd (not_some w refl)
