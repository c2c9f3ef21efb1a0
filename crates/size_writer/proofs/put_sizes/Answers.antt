-- The four bytes and the number stored are the sizes.
use Rattle.std.proofs.Common.{◌∙◌}
use borrow.Author.Tests.{le-ltb}
use lib.ListN.{length}
use Rattle.model.specs.RoundSheet.{header_size}
use Rattle.size_writer.specs.Sizes.{sizes_put}
use Rattle.size_writer.proofs.Stores.{sizes-stored}
use Rattle.size_writer.proofs.put_sizes.Goals as goal

pub returns : goal.returns
unfolding sizes_put
returns c =
    let a = c.args in
    let long = c.if-buffer-lt-HEADER_SIZE.false in
    rw (le-ltb (length a.buffer.now) header_size long) (c.put_word.ensures ∙ sizes-stored a.settings a.buffer.now long)
