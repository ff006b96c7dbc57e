use Rattle.std.proofs.lemmas.Str.{IsUtf8-from_ascii}
use Rattle.escape.proofs.put_bytes.Goals as goal

pub returns-clause-ascii : goal.returns-clause-ascii
returns-clause-ascii c ascii = IsUtf8-from_ascii _ (c.loop-byte.invariant.3 ascii)
