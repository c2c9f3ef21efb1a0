-- Where there are none the mean is 0; some numbers are divided.
use Rattle.means.proofs.Means.{floor_none, floor_is}
use Rattle.means.proofs.floor_mean.Goals as goal

pub returns-then-n-eq0 : goal.returns-then-n-eq0
returns-then-n-eq0 c = floor_none c.args.n c.args.sum c.if-n-eq0.true

pub returns-else-n-eq0 : goal.returns-else-n-eq0
returns-else-n-eq0 c = floor_is c.args.n c.args.sum c.if-n-eq0.false
