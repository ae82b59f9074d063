mod Arranged
