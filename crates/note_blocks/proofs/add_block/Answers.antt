use Rattle.note_blocks.proofs.add_block.Goals as goal

pub returns : goal.returns
returns c = rw c.add_words.ensures
