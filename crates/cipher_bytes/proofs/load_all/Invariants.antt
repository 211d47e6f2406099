-- `cipher_bytes::load_all` meets its contract: it is filled word by word.
use mathlib.Core.Path.{◌≡◌}
use lib.ListN.{length, take}
use Rattle.clefia_spec.specs.Words.{words_of}
use Rattle.cipher_bytes.proofs.load_all.Given as goal

abbrev pub invariant-loop-i : goal.invariant-loop-i
invariant-loop-i l = take l.i l.dst ≡ take l.i (words_of (length l.initial.dst) l.src)
