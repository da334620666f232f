-- What a stream holds after want of memory.
use Rattle.std.specs.Prelude.{◌≡◌}
use Rattle.dm_stream.specs.Trees.{Trees, join}

-- `new` is `old`, and then a front of what was to be added
pub record IsPartly (old added new : Trees) : Type 0 where
  pub front : Trees
  pub missing : Trees
  pub added_is : added ≡ join front missing
  pub new_is : new ≡ join old front
