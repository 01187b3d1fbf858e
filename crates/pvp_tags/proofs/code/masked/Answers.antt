use Rattle.std.proofs.Common.{rules, ◌≡◌, ◌<◌, ◌++◌, ◌+◌, ◌∷◌, [], ◌∙◌, ap, sym, length, take, slice_set, bit_xor}
use Rattle.std.proofs.lemmas.List.{length-set, take_more, take_more_set, map-append}
use Rattle.std.proofs.lemmas.Option.{get_or_from_slice_get, slice_get_within}
use Rattle.pvp_tags.specs.Hmac.{filled, masked}
use Rattle.pvp_tags.proofs.code.masked.Goals as goal

-- src/code.rt:41:5
pub loop-at-preserved : goal.loop-at-preserved
loop-at-preserved c =
    let key = filled c.args.key.now in
    let at = c.loop-at.at in
    let byte = c.byte_at.result in
    let mask = c.args.mask in
    let found = c.byte_at.ensures c.loop-at-test.true c.requires in
    let in_block : at < length c.loop-at.block = rw (c.loop-at.invariant.0) c.loop-at-test.true in
    let in_key = slice_get_within key at byte found in
    let more = take_more key at byte in_key ∙ ap (λ b. take at key ++ b ∷ []) (get_or_from_slice_get key at byte byte found) in (
      length-set c.loop-at.block at (bit_xor byte mask) ∙ c.loop-at.invariant.0,
      take_more_set c.loop-at.block at (bit_xor byte mask) in_block
          ∙ ap (λ bytes. bytes ++ bit_xor byte mask ∷ []) c.loop-at.invariant.1
          ∙ sym (ap (λ bytes. masked mask bytes) more ∙ map-append (λ b. bit_xor b mask) (take at key) (byte ∷ [])),
    )
