-- The slices of an image as its parts.
use Rattle.sbpf_verify.specs.declared.image.ImageSlices.{ImageSlices}
use Rattle.sbpf_verify.specs.Images.{ImageParts}

abbrev pub image_view : ImageSlices → ImageParts
image_view slices = record { text = slices.text.now; constants = slices.constants.now }
