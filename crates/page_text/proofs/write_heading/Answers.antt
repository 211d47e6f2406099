use Rattle.std.proofs.Common.{refl}
use Rattle.planbook_spec.specs.Page.{spaces, right_aligned, heading}
use Rattle.page_text.proofs.write_heading.Goals as goal

pub returns : goal.returns
unfolding heading right_aligned spaces
returns c = rw c.copy_from_slice.ensures.after refl
