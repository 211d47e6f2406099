use Rattle.cipher_block_four_way.proofs.decrypt_four.Goals as goal

pub returns : goal.returns
returns g c = rw (
  c.decrypt_each.ensures,
  c.load.ensures,
  c.load-2.ensures,
  c.load-3.ensures,
  c.load-4.ensures,
)
