-- Facts on the bytes of names.
use Rattle.std.proofs.Common.{◌≤◌, ℕ, List, length}
use Rattle.std.specs.List.{prefix_len}
use Rattle.std.proofs.lemmas.List.Sums.{prefix_len-le-length}
use Rattle.conf_tree.specs.Names.{is_name_byte}

pub name_bytes_within : (text : List ℕ) → prefix_len is_name_byte text ≤ length text
name_bytes_within text = prefix_len-le-length is_name_byte text
