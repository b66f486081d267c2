-- Why `verify` does what its contract says.
use Rattle.std.proofs.Common.{refl}
use Rattle.task_driver.specs.Questions.{of_kept}
use Rattle.task_driver.proofs.given.verify.Goals as goal

pub returns : goal.returns
returns g c = c.search_once.ensures of_kept refl
