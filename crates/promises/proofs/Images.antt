-- Laws of an image and its stream.
use Rattle.promises.proofs.Names.{refl, image-length, image-bytes, image-sums, image-number-lt, two-views, StreamSizes, StreamToImage, ImageToStream}

pub stream-sizes : StreamSizes
stream-sizes = record { image0 = refl; image1 = refl; image2 = refl; stream0 = refl; stream1 = refl; stream2 = refl }

pub stream-to-image : StreamToImage
stream-to-image z N = record { long = image-length z N; bytes = image-bytes z N; right = image-sums z N; stream = image-number-lt z N }

pub image-to-stream : ImageToStream
image-to-stream = two-views
