-- The ranges of settings.
use Rattle.std.specs.Prelude.{◌≤◌}
use Rattle.fapp_workers.specs.declared.settings.Settings.{Settings}
use Rattle.fapp_model.specs.declared.limits.TheConstants.{MAX_FUEL, MAX_POOL, MAX_SPLIT, MAX_WORKERS}

pub record AreInRange (settings : Settings) : Type 0 where
  pub some_workers : 1 ≤ settings.workers
  pub few_workers : settings.workers ≤ MAX_WORKERS
  pub fuel : settings.fuel ≤ MAX_FUEL
  pub some_prefixes : 1 ≤ settings.split
  pub few_prefixes : settings.split ≤ MAX_SPLIT
  pub rows : settings.pool ≤ MAX_POOL
