-- What a search keeps, step after step.
use Rattle.std.proofs.Common.{◌≡◌, All, Contains, refl, sym, subst, ◌∙◌, ⊎_elim, arith}
use Rattle.std.proofs.lemmas.List.Elements.{All-contains, Contains-append_left, Contains-append_right, Contains-append_cases}
use Rattle.fapp_model.specs.declared.instance.Instance.{Instance}
use Rattle.fapp_model.proofs.Members.{All-from_members}
use Rattle.search_log.specs.Shares.{SharedState, known}
use Rattle.settle_laws.specs.Worlds.{Keeps, World}
use Rattle.settle_laws.proofs.Adding.{gains-none, gains-trans, has-same, has-trans, served-none, served-trans}

pub rows-grow : (old new : SharedState) → All (Contains new.copied) old.copied → new.published ≡ old.published → All (Contains (known new)) (known old)
rows-grow old new copied published = All-from_members (Contains (known new)) (known old) (λ row m. ⊎_elim
    (λ l. Contains-append_left new.copied new.published row (All-contains (Contains new.copied) old.copied row copied l))
    (λ r. Contains-append_right new.copied new.published row (subst (λ rows. Contains rows row) (sym published) r))
    (Contains-append_cases old.copied old.published row m))

pub keeps-same : (instance : Instance) (w : World) → Keeps instance w w
keeps-same instance w = record {
  fuel = omega arith;
  copied = has-same w.shared.copied;
  published = refl;
  takes = refl;
  refusals = omega arith;
  lines = gains-none w.log.lines;
  served = served-none instance w.log.lines;
  segments = refl;
  good = λ good. good;
  began = refl;
  tells = omega arith;
  lowers = λ tag. omega arith;
  falls = omega arith;
  least = λ h. h;
  right = λ h. h;
  better = λ tag h. h;
}

pub keeps-trans : (instance : Instance) (a b c : World) → Keeps instance a b → Keeps instance b c → Keeps instance a c
keeps-trans instance a b c h k = record {
  fuel = omega (arith, h.fuel, k.fuel);
  copied = has-trans a.shared.copied b.shared.copied c.shared.copied h.copied k.copied;
  published = k.published ∙ h.published;
  takes = k.takes ∙ h.takes;
  refusals = omega (arith, h.refusals, k.refusals);
  lines = gains-trans a.log.lines b.log.lines c.log.lines h.lines k.lines;
  served = served-trans instance a.log.lines b.log.lines c.log.lines k.lines h.served k.served;
  segments = k.segments ∙ h.segments;
  good = λ good. k.good (h.good good);
  began = k.began ∙ h.began;
  tells = omega (arith, h.tells, k.tells);
  lowers = λ tag. omega (arith, h.lowers tag, k.lowers tag);
  falls = omega (arith, h.falls, k.falls);
  least = λ l. k.least (h.least l);
  right = λ r. k.right (h.right r);
  better = λ tag l. k.better tag (h.better tag l);
}
