-- How many entities there are as the opening state is made; inner contracts alone cite this.
use Rattle.std.specs.Prelude.{ℕ, ◌≤◌, length}
use Rattle.mf_objects.specs.Live.{Entities}

-- at most so many entities live, and at most so many ids were given
pub record HasAtMost (o : Entities) (n : ℕ) : Type 0 where
  pub live : length o.live ≤ n
  pub ids : o.next ≤ n
