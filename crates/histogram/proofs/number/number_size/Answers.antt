-- `histogram::number::number_size` meets its contract: each return lies between two powers of 128. Assumes nothing.
use mathlib.Core.Path.{sym, ap}
use native.Mathlib.Omega.{arith}
use lib.ListN.{length}
use Rattle.histogram.proofs.Groups.{bytes-last, bytes-many}
use Rattle.histogram.proofs.number.number_size.Goals as goal

pub returns-then-n-lt128 : goal.returns-then-n-lt128
returns-then-n-lt128 c = sym (ap length (bytes-last c.args.n c.if-n-lt128.true))

pub returns-then-n-lt16384 : goal.returns-then-n-lt16384
returns-then-n-lt16384 c = sym (bytes-many 1 c.args.n (omega arith) (omega arith))

pub returns-then-n-lt2097152 : goal.returns-then-n-lt2097152
returns-then-n-lt2097152 c = sym (bytes-many 2 c.args.n (omega arith) (omega arith))

pub returns-then-n-lt268435456 : goal.returns-then-n-lt268435456
returns-then-n-lt268435456 c = sym (bytes-many 3 c.args.n (omega arith) (omega arith))

pub returns-then-n-lt34359738368 : goal.returns-then-n-lt34359738368
returns-then-n-lt34359738368 c = sym (bytes-many 4 c.args.n (omega arith) (omega arith))

pub returns-then-n-lt4398046511104 : goal.returns-then-n-lt4398046511104
returns-then-n-lt4398046511104 c = sym (bytes-many 5 c.args.n (omega arith) (omega arith))

pub returns-then-n-lt562949953421312 : goal.returns-then-n-lt562949953421312
returns-then-n-lt562949953421312 c = sym (bytes-many 6 c.args.n (omega arith) (omega arith))

pub returns-then-n-lt72057594037927936 : goal.returns-then-n-lt72057594037927936
returns-then-n-lt72057594037927936 c = sym (bytes-many 7 c.args.n (omega arith) (omega arith))

pub returns-then-n-lt-TOP : goal.returns-then-n-lt-TOP
returns-then-n-lt-TOP c = sym (bytes-many 8 c.args.n (omega arith) (omega arith))

pub returns : goal.returns
returns c = sym (bytes-many 9 c.args.n (omega arith) (omega arith))
