use Rattle.cipher_round_keys.proofs.step.Goals as goal

pub returns : goal.returns
returns c = record {
  l_after = c.double_swap.ensures;
  expanded_after = rw
      (c.put_four.ensures, c.step_keys.ensures);
}
