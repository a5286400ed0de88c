-- `lowering_file::helper_count` meets its contract: two, or five. Assumes nothing.
use Rattle.lowering_file.proofs.helper_count.Goals as goal

pub returns-then-several : goal.returns-then-several
returns-then-several c = rw c.if-several.true

pub returns-else-several : goal.returns-else-several
returns-else-several c = rw c.if-several.false
